-- The fields are laid one after the other.
use Rattle.dpx_header.specs.Writing.{all_laid}
use Rattle.dpx_header.proofs.writing.put_file_fields.Goals as goal

pub returns-clause-fields : goal.returns-clause-fields
unfolding all_laid
returns-clause-fields c =
    rw (c.put_undefined.ensures, c.put_text-4.ensures, c.bytes.ensures.text, c.put_text-3.ensures, c.put_text-2.ensures, c.frame_file_name.ensures, c.put_u32-6.ensures, c.put_u32-5.ensures, c.put_u32-4.ensures, c.put_u32-3.ensures, c.put_u32-2.ensures, c.put_text.ensures, c.put_u32.ensures, c.put_bytes.ensures)
