use Rattle.std.proofs.Common.{refl, sym, ◌∙◌, rules}
use Rattle.std.proofs.lemmas.Grind.{common_steps}
use Rattle.mh_io.proofs.FolderLemmas.{found_file}
use Rattle.mh_io.proofs.mem_folder.MemFolderFolder.find.Goals as goal

pub returns-in-Some-clause-finds : goal.returns-in-Some-clause-finds
returns-in-Some-clause-finds c = record {
  count = search (rules, common_steps);
  counted = search (rules, common_steps);
  reads_stand = search (rules, common_steps);
  reads_counted = search (rules, common_steps);
  due = search (rules, common_steps);
  told = search (rules, common_steps);
  clean = search (rules, common_steps);
  found = found_file c.args.self.now.files c.args.name.now c.in-Some.source _ refl (sym c.in_ok-found.ensures ∙ c.in-Some.is);
  failed = search (rules, common_steps);
}
