-- What a chain of reads that ends well read on its way.
use Rattle.std.proofs.Common.{◌≡◌, Bool, true, false, cond, ◌⊎◌, inl, inr, Some, None, Result, Ok, Err, refl, ap}
use Rattle.std.specs.Result.{result_map_both}
use Rattle.crif_records.specs.Binds.{◌>>=◌}

pub bind_ok : {A B E P : Type 0} (f : A → Result B E) (r : Result A E) (y : B) → (r >>= f) ≡ Ok y → ((x : A) → r ≡ Ok x → f x ≡ Ok y → P) → P
bind_ok f (Ok x) y e k = k x refl e
bind_ok f (Err d) y e k = cc

pub same_ok : {A E : Type 0} (x y : A) → ◌≡◌ {A = Result A E} (Ok x) (Ok y) → x ≡ y
same_ok x y e = cc

pub either : {A : Type 0} (b : Bool) (x y z : A) → cond b x y ≡ z → ((b ≡ true) × (x ≡ z)) ⊎ ((b ≡ false) × (y ≡ z))
either true x y z e = inl (refl, e)
either false x y z e = inr (refl, e)

pub ok_if : {A E : Type 0} (b : Bool) (x : A) (d : E) (y : A) → cond b (Ok x) (Err d) ≡ Ok y → (b ≡ true) × (x ≡ y)
ok_if true x d y e = (refl, same_ok x y e)
ok_if false x d y e = cc

pub mapped_ok : {A E D : Type 0} (g : E → D) (r : Result A E) (x : A) → result_map_both (λ y. y) g r ≡ Ok x → r ≡ Ok x
mapped_ok g (Ok y) x e = ap (λ z. Ok z) (same_ok y x e)
mapped_ok g (Err d) x e = cc

pub same_some : {A : Type 0} (x y : A) → Some x ≡ Some y → x ≡ y
same_some x y e = cc

pub some_if : {A : Type 0} (b : Bool) (x y : A) → Some x ≡ cond b (Some y) None → (b ≡ true) × (x ≡ y)
some_if true x y e = (refl, same_some x y e)
some_if false x y e = cc
