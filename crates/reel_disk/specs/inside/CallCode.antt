-- How the logic stores a call: words of private clauses.
use Rattle.std.specs.Prelude.{◌≡◌, ◌⊎◌, ℕ, List, refl}
use Rattle.std.proofs.Common.{inl, inr}
use Rattle.std.specs.Coded.{Coded, code_by, coded×, coded⊎, coded_ℕ, coded_list}
use Rattle.cf_base.specs.declared.file.FileId.{FileId}
use Rattle.cf_base.specs.contracts.file.FileId as file_id
use Rattle.reel_disk.specs.declared.disk.Length.{Length}
use Rattle.reel_disk.specs.declared.disk.Got.{Got}
use Rattle.reel_disk.specs.declared.disk.Did.{Did}
use Rattle.reel_disk.specs.contracts.disk.Length as length_type
use Rattle.reel_disk.specs.contracts.disk.Got as got_type
use Rattle.reel_disk.specs.contracts.disk.Did as did_type
use Rattle.reel_disk.specs.Call.{Call, Measured, Read, Wrote, Patched, Synced}

abbrev Bytes : Type 0
Bytes = List ℕ

abbrev Parts : Type 0
Parts = (FileId × Length)
    ⊎ ((FileId × (ℕ × (Bytes × Got))) ⊎ ((FileId × (Bytes × Did)) ⊎ ((FileId × (ℕ × (Bytes × Did))) ⊎ (FileId × Did))))

abbrev to_parts : Call → Parts
to_parts (Measured id len) = inl (id, len)
to_parts (Read id start into got) = inr (inl (id, (start, (into, got))))
to_parts (Wrote id bytes did) = inr (inr (inl (id, (bytes, did))))
to_parts (Patched id start bytes did) = inr (inr (inr (inl (id, (start, (bytes, did))))))
to_parts (Synced id did) = inr (inr (inr (inr (id, did))))

abbrev from_parts : Parts → Call
from_parts (inl p) = Measured p.0 p.1
from_parts (inr (inl p)) = Read p.0 p.1.0 p.1.1.0 p.1.1.1
from_parts (inr (inr (inl p))) = Wrote p.0 p.1.0 p.1.1
from_parts (inr (inr (inr (inl p)))) = Patched p.0 p.1.0 p.1.1.0 p.1.1.1
from_parts (inr (inr (inr (inr p)))) = Synced p.0 p.1

pub from_to : (call : Call) → from_parts (to_parts call) ≡ call
from_to (Measured id len) = refl
from_to (Read id start into got) = refl
from_to (Wrote id bytes did) = refl
from_to (Patched id start bytes did) = refl
from_to (Synced id did) = refl

abbrev pub call_code : Coded Call
call_code = code_by Parts (coded⊎ (coded× (file_id.the_row).coded (length_type.the_row).coded)
    (coded⊎ (coded× (file_id.the_row).coded (coded× coded_ℕ (coded× (coded_list coded_ℕ) (got_type.the_row).coded)))
    (coded⊎ (coded× (file_id.the_row).coded (coded× (coded_list coded_ℕ) (did_type.the_row).coded))
    (coded⊎ (coded× (file_id.the_row).coded (coded× coded_ℕ (coded× (coded_list coded_ℕ) (did_type.the_row).coded)))
    (coded× (file_id.the_row).coded (did_type.the_row).coded))))) to_parts from_parts from_to
