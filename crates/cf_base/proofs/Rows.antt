-- Worked examples of numbers and names, each by computing the definition.
use Rattle.std.proofs.Common.{◌≡◌, refl, codes, pos, neg_ℤ, ℤ, [], ◌∷◌, false}
use Rattle.std.specs.Prelude.{Ok, Err, Result}
use Rattle.std.specs.List.{list_any}
use Rattle.cf_base.specs.Digits.{frame_file_name}
use Rattle.cf_base.specs.Fixed.{fixed_of, is_number}
use Rattle.cf_base.specs.declared.fixed.Fixed.{Fixed}
use Rattle.cf_base.specs.declared.fixed.FixedFault.{FixedFault}
use Rattle.cf_base.specs.declared.fixed.FixedFault.TheVariants.{NotNumber, Exponent}

abbrev units : ℤ → Result Fixed FixedFault
units z = Ok (record { 0 = z })

no_whole_part : fixed_of (codes "-.5") ≡ units (neg_ℤ (pos 500000000))
no_whole_part = refl

no_decimals : fixed_of (codes "+2.") ≡ units (pos 2000000000)
no_decimals = refl

only_a_point : fixed_of (codes ".") ≡ Err NotNumber
only_a_point = refl

empty_exponent : fixed_of (codes "1e") ≡ Err NotNumber
empty_exponent = refl

long_exponent : fixed_of (codes "1e100") ≡ Err Exponent
long_exponent = refl

capped : fixed_of (codes "1e9") ≡ units (pos 1000000000000)
capped = refl

small : fixed_of (codes "1e-05") ≡ units (pos 10000)
small = refl

-- the tenth decimal decides, away from zero
half : fixed_of (codes "-0.00000000050") ≡ units (neg_ℤ (pos 1))
half = refl

below_half : fixed_of (codes "0.00000000049999") ≡ units (pos 0)
below_half = refl

least_exponent : fixed_of (codes "9999e-99") ≡ units (pos 0)
least_exponent = refl

not_numbers : list_any is_number (codes "" ∷ codes "+" ∷ codes "1.2.3" ∷ codes "e5" ∷ codes "1e5e6" ∷ codes "+-1" ∷ codes "1e+-5" ∷ codes "1e5." ∷ codes "1a" ∷ codes "0x10" ∷ []) ≡ false
not_numbers = refl

twelfth_frame : frame_file_name 1 86412 ≡ codes "r001.0086412.dpx"
unfolding frame_file_name
twelfth_frame = refl
