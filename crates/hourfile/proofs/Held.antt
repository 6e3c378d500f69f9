-- What is held where a test says so.
use Rattle.std.proofs.Common.{◌≡◌, Bool, true, cond, Some, None, Option, refl}
use Rattle.std.specs.Option.{IsSome, option_map}

module _ {X Y : Type 0} (f : X → Y) (test : Bool) (y : Y) (is : test ≡ true) where
  pub some_held : (r : Option X) → option_map f r ≡ cond test (Some y) None → IsSome r
  some_held None e = let g = rw is at e in cc
  some_held (Some x) e = refl

  pub held_is : (r : Option X) (x : X) → option_map f r ≡ cond test (Some y) None → r ≡ Some x → f x ≡ y
  held_is r x e some = let g = rw (some, is) at e in cc
