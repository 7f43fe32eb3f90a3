use Rattle.std.proofs.Common.{◌≡◌, ℕ, ◌+◌, List, [], ◌∷◌, ◌++◌, map, Err, sym, ap, subst, ◌∙◌}
use Rattle.std.proofs.lemmas.List.{map-append}
use Rattle.std.proofs.lemmas.List.Elements.{All-push}
use Rattle.std.proofs.lemmas.Result.{err_from_is_err_and}
use Rattle.toml.specs.View.{view}
use Rattle.simm_params.specs.TomlValues.Answers.{Unless, is_memory}
use Rattle.simm_params.proofs.TomlValues.Places.{goes_on, ends, is_done}
use Rattle.simm_params.specs.SimmRules.Params.{CurrencyGroup}
use Rattle.simm_params.specs.GroupView.{group_view}
use Rattle.simm_params.specs.Thresholds.{AreThresholds}
use Rattle.params_file.specs.Groups.{group_at, group_of}
use Rattle.params_file.proofs.GroupList.{currencies_in-push}
use Rattle.params_file.proofs.group_array.read_places.Goals as goal

pub loop-index-preserved : goal.loop-index-preserved
loop-index-preserved c =
    let front = map group_view c.loop-index.groups.items in
    let group = group_view c.in_ok-group.group in
    let grown : map group_view c.push.new.self.items ≡ front ++ group ∷ [] = ap (map group_view) c.in_ok-push.ensures.items ∙ map-append group_view c.loop-index.groups.items (c.in_ok-group.group ∷ []) in
    let read = ap (λ (before : List (List ℕ)). group_of (c.loop-index.index + 1) before (view c.index-places-index.result)) (sym c.loop-index.invariant.earlier) ∙ c.in_ok-group.ensures.value in
    rw grown (record {
      value = goes_on group_at [] front c.loop-index.index c.args.places.now _ c.index-places-index.result group c.loop-index-test.true c.index-places-index.is read c.loop-index.invariant.value;
      earlier = c.in_ok-append.ensures ∙ ap (λ (l : List (List ℕ)). l ++ group.currencies) c.loop-index.invariant.earlier ∙ sym (currencies_in-push front group);
      within = All-push (λ (g : CurrencyGroup). AreThresholds g.thresholds) front group c.loop-index.invariant.within c.in_ok-group.ensures.within;
    })

pub returns-in_err-group-clause-value : goal.returns-in_err-group-clause-value
returns-in_err-group-clause-value c =
    let p = err_from_is_err_and c.from_residual-in_err-group.result c.from_residual-in_err-group.ensures.1 in
    let front = map group_view c.loop-index.groups.items in
    let read = subst (λ (before : List (List ℕ)). Unless (is_memory c.in_err-group.field-0.0) (group_of (c.loop-index.index + 1) before (view c.index-places-index.result) ≡ Err c.in_err-group.field-0.0)) c.loop-index.invariant.earlier c.in_err-group.ensures.value in
    rw (p.1, p.2)
    (ends group_at [] front c.loop-index.index c.args.places.now _ (is_memory c.in_err-group.field-0.0) c.in_err-group.field-0.0 c.index-places-index.result c.loop-index-test.true c.index-places-index.is read c.loop-index.invariant.value)

pub returns-clause-value : goal.returns-clause-value
returns-clause-value c = is_done group_at [] (map group_view c.loop-index.groups.items) c.loop-index.index c.args.places.now _ c.loop-index-test.false c.loop-index.invariant.value
