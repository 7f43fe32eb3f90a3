-- Texts that were made each by itself, and what putting one after another leaves in a sink.
use Rattle.std.proofs.Common.{◌≡◌, ℕ, ◌<◌, List, [], ◌∷◌, ◌++◌, zero, suc, length, map, get_or, Result, Ok, Err, IfOk, refl, sym, ap, subst, ◌∙◌, arith}
use Rattle.std.specs.declared.alloc.AllocError.{AllocError}
use Rattle.std.specs.Global.{Vec}
use Rattle.std.specs.List.{flat_map}
use Rattle.std.proofs.lemmas.List.{append-nil, length-map}
use Rattle.std.proofs.lemmas.List.Concat.{flat_map-append}
use Rattle.std.proofs.lemmas.List.Folds.{flat_map-map}
use Rattle.feed_gate.specs.SetCore.Set.{Set}
use Rattle.feed_gate.specs.declared.report.FeedReport.{FeedReport}
use Rattle.margin_run.specs.declared.account.Account.{Account}
use Rattle.margin_run.specs.declared.account.Account.TheVariants.{Journals, Audits}
use Rattle.margin_run.specs.Accounts.{set_text, reports_text, account_text}

-- each text is that of its place
pub each_text : {S E : Type 0} (f : S → List ℕ) (sets : List S) (texts : List (List ℕ)) → length texts ≡ length sets
    → ((i : ℕ) (d : Result (List ℕ) E) → i < length sets → IfOk (get_or (map (λ t. Ok t) texts) i d) (λ t. (s : S) → t ≡ f (get_or sets i s)))
    → texts ≡ map f sets
each_text f [] [] same each = refl
each_text f [] (t ∷ texts) same each = absurd (omega (arith, same))
each_text f (s ∷ sets) [] same each = absurd (omega (arith, same))
each_text f (s ∷ sets) (t ∷ texts) same each =
    let first : t ≡ f s = each zero (Ok t) (omega arith) s in
    let rest : texts ≡ map f sets = each_text f sets texts (omega (arith, same)) (λ i d less. each (suc i) d (omega (arith, less))) in
    ap (λ x. x ∷ texts) first ∙ ap (λ xs. f s ∷ xs) rest

pub texts_are : (account : Account) (sets : List Set) (made : List (Result (List ℕ) AllocError)) (taken : Result (Vec (List ℕ)) AllocError) → length made ≡ length sets
    → ((i : ℕ) (d : Result (List ℕ) AllocError) → i < length sets → IfOk (get_or made i d) (λ t. (s : Set) → t ≡ set_text account (get_or sets i s)))
    → IfOk taken (λ texts. map (λ t. Ok t) texts.items ≡ made) → IfOk taken (λ texts. texts.items ≡ map (set_text account) sets)
texts_are account sets made (Ok texts) count each same =
    each_text (set_text account) sets texts.items (sym (length-map texts.items (λ t. Ok t)) ∙ ap length same ∙ count)
    (λ i d less. subst (λ made. IfOk (get_or made i d) (λ t. (s : Set) → t ≡ set_text account (get_or sets i s))) (sym same) (each i d less))
texts_are account sets made (Err memory) count each same = tt

-- texts in parts, and one behind them
pub in_parts : {S : Type 0} (f : S → List ℕ) (sets : List S) (before : List (List ℕ)) (last : List ℕ) (all : List (List ℕ)) → before ≡ map f sets
    → all ≡ before ++ (last ∷ []) → flat_map (λ t. t) all ≡ flat_map f sets ++ last
in_parts f sets before last all are is =
    ap (flat_map (λ t. t)) (is ∙ ap (λ ts. ts ++ (last ∷ [])) are)
    ∙ flat_map-append (λ t. t) (map f sets) (last ∷ [])
    ∙ ap (λ bytes. bytes ++ (last ++ [])) (flat_map-map (λ t. t) f sets)
    ∙ ap (λ bytes. flat_map f sets ++ bytes) (append-nil last)

-- the parts of an account are all of it
pub account_is : (account : Account) (sets : List Set) (reports : List FeedReport)
    → flat_map (set_text account) sets ++ reports_text account (map (λ s. s.terms.collect.name) sets) reports ≡ account_text account sets reports
account_is Journals sets reports = refl
account_is Audits sets reports = append-nil (flat_map (set_text Audits) sets)
