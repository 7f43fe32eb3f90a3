use Rattle.std.proofs.Common.{[], map}
use Rattle.std.specs.List.{All}
use Rattle.toml.specs.View.{items_view}
use Rattle.simm_params.specs.TomlValues.Paths.{word_of}
use Rattle.simm_params.specs.TomlValues.Places.{each_of}
use Rattle.simm_params.proofs.TomlValues.Places.{SoFar}
use Rattle.params_file.specs.Classes.{bucket_at}
use Rattle.params_file.specs.ClassRanges.{IsClassBucket}
use Rattle.params_file.proofs.bucket_array.read_places.Given as goal

abbrev pub invariant-loop-index : goal.invariant-loop-index
invariant-loop-index l =
    let test = bucket_at (map word_of l.path) l.form.own l.form.residual l.count in
    record {
      read : SoFar test [] l.buckets l.index l.places (each_of test 1 [] (items_view l.places));
      each : All (IsClassBucket l.form.own) l.buckets;
    }
