-- The call of a note: words of private clauses.
use Rattle.reel_disk.specs.declared.made.Note.{Note}
use Rattle.reel_disk.specs.declared.made.Note.TheVariants as note
use Rattle.reel_disk.specs.Call.{Call, Measured, Read, Wrote, Patched, Synced}

abbrev pub call_of : Note → Call
call_of (note.Length id len) = Measured id len
call_of (note.Read id start into got) = Read id start into.now got
call_of (note.WriteWhole id bytes did) = Wrote id bytes.now did
call_of (note.WriteAt id start bytes did) = Patched id start bytes.now did
call_of (note.Sync id did) = Synced id did
