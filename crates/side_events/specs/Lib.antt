pub use Rattle.csa_terms.specs as CsaTerms
