-- A file that one read takes whole, and what it says of a seal.
use Rattle.std.proofs.Common.{◌≡◌, ◌≢◌, ℕ, Bool, true, nat_eq, List, ◌++◌, length, take, refl, sym, ◌∙◌, ap, arith}
use Rattle.std.specs.Prelude.{◌↔◌, Option, Some}
use Rattle.std.specs.Cmp.Lexicographic.{pointwise, same_text}
use Rattle.std.proofs.lemmas.Cmp.{nat_list_eq_equiv}
use Rattle.std.proofs.lemmas.List.{take_at}
use Rattle.reel_disk.specs.declared.disk.Length.TheVariants.{There}
use Rattle.reel_disk.specs.declared.disk.Got.TheVariants.{Bytes}
use Rattle.reel_disk.specs.Disk.{HasLength, HasRead}
use Rattle.reel_disk.proofs.WholeRead.{whole_read}
use Rattle.resume_ledger.specs.declared.layout.Version.{Version}
use Rattle.resume_ledger.specs.declared.layout.Version.TheVariants.{One, Two}
use Rattle.resume_ledger.specs.Body.{layout_of}
use Rattle.resume_ledger.proofs.Bodies.{some_same}

-- a file that was read whole, into the front of a longer list
pub whole_front : (content : Option (List ℕ)) (len n : ℕ) (into rest : List ℕ) → HasLength content (There len) → HasRead content 0 into (Bytes n) → n ≡ len → length into ≡ len → content ≡ Some (take len (into ++ rest))
whole_front content len n into rest there read full long = whole_read content len n into there read full long ∙ ap Some (sym (take_at into rest len long))

mark_long : (version : Version) → length (layout_of version).mark ≡ 15
mark_long One = refl
mark_long Two = refl

-- a file with another length is no seal
pub other_length : (version : Version) (content : Option (List ℕ)) (len : ℕ) → HasLength content (There len) → len ≢ 15 → content ≢ Some (layout_of version).mark
other_length version content len there other seal =
    other (there.2 ∙ ap length (some_same (sym there.1 ∙ seal)) ∙ mark_long version)

-- nor is one of which a read takes another number of bytes
pub other_read : (version : Version) (content : Option (List ℕ)) (n : ℕ) (into : List ℕ) → HasRead content 0 into (Bytes n) → length into ≡ 15 → n ≢ 15 → content ≢ Some (layout_of version).mark
other_read version content n into read room other seal =
    let long : length read.0 ≡ 15 = ap length (some_same (sym read.1 ∙ seal)) ∙ mark_long version in
    other (omega (arith, read.2, room, long))

-- a test of the whole content with a seal
pub seal_test : (version : Version) (content : Option (List ℕ)) (into mark : List ℕ) (test : Bool) → content ≡ Some into → test ≡ pointwise nat_eq into mark → mark ≡ (layout_of version).mark → (test ≡ true) ↔ (content ≡ Some (layout_of version).mark)
seal_test version content into mark test whole tested is =
    (λ so. whole ∙ ap Some (same_text into mark (sym so ∙ tested) ∙ is), λ seal. tested ∙ ap (λ l. pointwise nat_eq l mark) (some_same (sym whole ∙ seal) ∙ sym is) ∙ nat_list_eq_equiv.refl mark)
