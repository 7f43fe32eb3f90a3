use Rattle.std.proofs.Common.{◌≡◌, [], map}
use Rattle.toml.specs.View.{items_view}
use Rattle.simm_params.specs.TomlValues.Places.{each_of}
use Rattle.simm_params.proofs.TomlValues.Places.{SoFar}
use Rattle.simm_params.specs.GroupView.{group_view}
use Rattle.params_file.specs.Groups.{AreGroups, currencies_in, group_at}
use Rattle.params_file.proofs.group_array.read_places.Given as goal

abbrev pub invariant-loop-index : goal.invariant-loop-index
invariant-loop-index l = record {
  value : SoFar group_at [] (map group_view l.groups.items) l.index l.places (each_of group_at 1 [] (items_view l.places));
  earlier : l.earlier ≡ currencies_in (map group_view l.groups.items);
  within : AreGroups (map group_view l.groups.items);
}
