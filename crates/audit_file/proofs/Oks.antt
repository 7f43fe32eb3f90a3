-- What a read that ends well came from.
use Rattle.std.proofs.Common.{◌≡◌, Bool, true, false, cond, Option, Some, None, is_none, option_map, option_and_then, Result, Ok, Err, ok_or, IfOk, refl}
use Rattle.std.specs.Result.{result_map_both}

pub map_ok : {A B D E P : Type 0} (f : A → B) (g : D → E) (r : Result A D) (y : B) → result_map_both f g r ≡ Ok y → ((x : A) → r ≡ Ok x → f x ≡ y → P) → P
map_ok f g (Ok x) y e k = k x refl cc
map_ok f g (Err d) y e k = cc

pub there : {A E : Type 0} (o : Option A) (fault : E) (x : A) → ok_or o fault ≡ Ok x → o ≡ Some x
there (Some y) fault x e = cc
there None fault x e = cc

pub none_there : {A : Type 0} (o : Option A) → is_none o ≡ true → o ≡ None
none_there None h = refl
none_there (Some x) h = cc

pub map_some : {A B P : Type 0} (f : A → B) (o : Option A) (y : B) → option_map f o ≡ Some y → ((x : A) → o ≡ Some x → f x ≡ y → P) → P
map_some f (Some x) y e k = k x refl cc
map_some f None y e k = cc

pub then_some : {A B P : Type 0} (f : A → Option B) (o : Option A) (y : B) → option_and_then f o ≡ Some y → ((x : A) → o ≡ Some x → f x ≡ Some y → P) → P
then_some f (Some x) y e k = k x refl e
then_some f None y e k = cc

pub passed : {A E : Type 0} (b : Bool) (fault : E) (r : Result A E) (x : A) → cond b r (Err fault) ≡ Ok x → r ≡ Ok x
passed true fault r x e = e
passed false fault r x e = cc

pub not_failed : {A E : Type 0} (b : Bool) (fault : E) (r : Result A E) (x : A) → cond b (Err fault) r ≡ Ok x → r ≡ Ok x
not_failed true fault r x e = cc
not_failed false fault r x e = e

pub if_each : {A E : Type 0} (r : Result A E) (Q : A → Type 0) → ((x : A) → r ≡ Ok x → Q x) → IfOk r Q
if_each (Ok x) Q k = k x refl
if_each (Err d) Q k = tt
