use Rattle.std.proofs.Common.{◌≡◌, ◌∙◌, ap, subst, Result, Ok, OnOk}
use Rattle.bucket_cache.specs.Entries.{trades_of}
use Rattle.bucket_cache.proofs.Puts.{trades_of-insert_entry}
use Rattle.bucket_cache.proofs.changing.put_one.Goals as goal

on_ok : {T E : Type 0} (r : Result T E) (x : T) (P : Type 0) → r ≡ Ok x → OnOk r P → P
on_ok r x P e h = subst (λ v. OnOk v P) e h

pub returns-clause-put : goal.returns-clause-put
returns-clause-put c = ap trades_of (on_ok c.insert.result c.unwrap.result _ c.unwrap.ensures c.insert.ensures.entries) ∙ trades_of-insert_entry c.args.put.trade c.args.put.rows c.args.current.now.entries
