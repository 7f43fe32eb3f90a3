-- The text of a pool in parts.
use Rattle.std.proofs.Common.{◌≡◌, ℕ, ◌+◌, List, [], ◌∷◌, ◌++◌, length, sym, ap, ◌∙◌, append-nil, append_assoc}
use Rattle.std.specs.List.{flat_map}
use Rattle.std.proofs.lemmas.List.{length_push}
use Rattle.std.proofs.lemmas.List.Concat.{flat_map-append}
use Rattle.pool_gate.specs.declared.job.PoolReport.{PoolReport}
use Rattle.margin_pool.specs.PoolText.{report_text, texts_from, rest_line, pool_text}

-- one text behind others
one_behind : (texts : List (List ℕ)) (t behind : List ℕ) → flat_map (λ t. t) (texts ++ t ∷ []) ++ behind ≡ flat_map (λ t. t) texts ++ (t ++ behind)
one_behind texts t behind =
    ap (λ bytes. bytes ++ behind) (flat_map-append (λ t. t) texts (t ∷ []))
    ∙ append_assoc (flat_map (λ t. t) texts) (t ++ []) behind
    ∙ ap (λ bytes. flat_map (λ t. t) texts ++ (bytes ++ behind)) (append-nil t)

-- the texts so far and what is left to make are all
pub texts_more : (texts : List (List ℕ)) (t : List ℕ) (r : PoolReport) (rest : List PoolReport) (all : List ℕ) → t ≡ report_text (length texts) r → flat_map (λ t. t) texts ++ texts_from (length texts) (r ∷ rest) ≡ all → flat_map (λ t. t) (texts ++ t ∷ []) ++ texts_from (length (texts ++ t ∷ [])) rest ≡ all
texts_more texts t r rest all is so_far =
    ap (λ n. flat_map (λ t. t) (texts ++ t ∷ []) ++ texts_from n rest) (length_push texts t)
    ∙ one_behind texts t (texts_from (length texts + 1) rest)
    ∙ ap (λ bytes. flat_map (λ t. t) texts ++ (bytes ++ texts_from (length texts + 1) rest)) is
    ∙ so_far

-- and then the last line
pub all_texts : (texts : List (List ℕ)) (last : List ℕ) (reports : List PoolReport) (rest : ℕ) → flat_map (λ t. t) texts ++ [] ≡ texts_from 0 reports → last ≡ rest_line rest → flat_map (λ t. t) (texts ++ last ∷ []) ≡ pool_text reports rest
all_texts texts last reports rest so_far is =
    flat_map-append (λ t. t) texts (last ∷ [])
    ∙ ap (λ bytes. flat_map (λ t. t) texts ++ bytes) (append-nil last ∙ is)
    ∙ ap (λ bytes. bytes ++ rest_line rest) (sym (append-nil (flat_map (λ t. t) texts)) ∙ so_far)
