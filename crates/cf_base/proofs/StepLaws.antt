-- Steps of a definition that came to a value.
use Rattle.std.proofs.Common.{◌≡◌, refl, Result}
use Rattle.std.specs.Prelude.{Ok, Err}
use Rattle.cf_base.specs.Steps.{◌>>=◌}

-- each of them gave one
pub bind_ok : {A B F : Type 0} (step : Result A F) (next : A → Result B F) (y : B) → (step >>= next) ≡ Ok y → (x : A) × (step ≡ Ok x) × (next x ≡ Ok y)
bind_ok (Ok x) next y h = (x, refl, h)
bind_ok {A} {B} {F} (Err fault) next y h = absurd (never fault y h)
  where
    never : (fault : F) (y : B) → ◌≡◌ {A = Result B F} (Err fault) (Ok y) → ⊥
    never fault y h = cc
