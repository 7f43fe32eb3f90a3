use Rattle.std.proofs.Common.{◌≡◌, ◌∷◌, [], ◌++◌, map, ap, ◌∙◌}
use Rattle.std.proofs.lemmas.Simd.{map-map}
use Rattle.margin_run.specs.Accounts.{set_text, reports_text}
use Rattle.margin_run.proofs.PrintingLemmas.{in_parts, account_is}
use Rattle.margin_run.proofs.run_printing.outcome_texts.Goals as goal

pub returns : goal.returns
returns g c =
    let account = c.args.account in
    let sets = c.args.run.now.sets.items in
    let texts : c.in_ok-texts.texts.items ≡ map (set_text account) sets = c.in_ok-texts.ensures ∙ ap (map (set_text account)) c.deref.ensures.value in
    let names : map (λ t. t.collect.name) c.sets.result.now ≡ map (λ s. s.terms.collect.name) sets =
    ap (map (λ t. t.collect.name)) (c.sets.ensures.value ∙ c.requires.terms) ∙ map-map (λ t. t.collect.name) (λ s. s.terms) sets in
    let reports = reports_text account (map (λ s. s.terms.collect.name) sets) c.args.run.now.reports.items in
    let last : c.in_ok-reports.reports ≡ reports =
    c.in_ok-reports.ensures
    ∙ ap (λ names. reports_text account names c.deref-2.result.now) names
    ∙ ap (λ rs. reports_text account (map (λ s. s.terms.collect.name) sets) rs) c.deref-2.ensures.value in
    in_parts (set_text account) sets c.in_ok-texts.texts.items reports c.push.new.self.items texts (c.in_ok-push.ensures.items ∙ ap (λ text. c.in_ok-texts.texts.items ++ (text ∷ [])) last)
    ∙ account_is account sets c.args.run.now.reports.items
