use Rattle.std.proofs.Common.{rules, ◌≡◌, ◌∙◌, [], ◌∷◌, map, None, Some, cond, refl, sym, ap}
use Rattle.std.specs.Map.{lookup, keys_of, update_all}
use Rattle.std.specs.Map.Iter.{deref_pair}
use Rattle.std.proofs.lemmas.Cmp.{nat_list_cmp_total, eq_by_cmp_equiv}
use Rattle.std.proofs.lemmas.List.{map-append}
use Rattle.std.proofs.lemmas.Map.{update_all_push}
use Rattle.std.proofs.lemmas.Map.Iter.{iter_end}
use Rattle.std.proofs.lemmas.Map.Keys.{IsDistinct-from_sorted}
use Rattle.std.proofs.lemmas.Map.Made.{update_all_none}
use Rattle.simm_params.specs.SimmKinds.Order.{name_cmp, same_name}
use Rattle.class_combine.proofs.Tables.{table_of, seen, same_table}
use Rattle.class_combine.proofs.notionals.Notionals.copy.Goals as goal

pub loop-qualifier-preserved : goal.loop-qualifier-preserved
loop-qualifier-preserved c = λ q.
    let done = c.loop-qualifier.by_qualifier.entries in
    let sum = c.in-Some.sum.now in
    c.in_ok-insert.ensures.updates.0 q ∙ ap (λ k. cond (same_name k q) (Some sum) (lookup (same_name q) done)) c.in_ok-copy.ensures
    ∙ update_all_push same_name (λ _. None) (λ n. lookup (same_name n) done) (map deref_pair c.loop-qualifier.yielded) (c.in-Some.qualifier.now, sum) q (c.loop-qualifier.invariant q)
    ∙ ap (λ es. update_all same_name (λ _. None) es q) (sym (map-append deref_pair c.loop-qualifier.yielded ((c.in-Some.qualifier, c.in-Some.sum) ∷ [])))

pub returns : goal.returns
returns c =
    let all = c.self.inside.by_qualifier.entries in
    let ran : map deref_pair c.loop-qualifier.yielded ≡ all = search (rules, iter_end) in
    same_table (table_of c.loop-qualifier.by_qualifier.entries) (table_of all)
    (λ q. sym (seen q c.loop-qualifier.by_qualifier.entries) ∙ c.loop-qualifier.invariant q ∙ ap (λ es. update_all same_name (λ _. None) es q) ran
    ∙ update_all_none (eq_by_cmp_equiv nat_list_cmp_total) same_name (λ a b. refl) all q (IsDistinct-from_sorted name_cmp (keys_of all) c.iter-qualifier-items.ensures.ordered)
    ∙ seen q all)
    ∙ c.self.view_is
