use Rattle.params_file.proofs.Ranged.{IsParams-from}
use Rattle.params_file.proofs.reading.read_table.Goals as goal

pub new-requires : goal.new-requires
new-requires c = IsParams-from _ c.in_ok-tables.ensures.ranged c.in_ok-check_symmetry.ensures.symmetric c.in_ok-check_thickness.ensures.thick
