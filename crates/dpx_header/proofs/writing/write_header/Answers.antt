-- The sections make the header, whose fields stand in their places and are read back.
use Rattle.std.proofs.Common.{get_or, sym, ap, subst, ◌∙◌}
use Rattle.dpx_header.specs.Reading.{info_of}
use Rattle.dpx_header.specs.Writing.{Stands}
use Rattle.dpx_header.proofs.Header.{header_made, header_apart, header_stands, header_others}
use Rattle.dpx_header.proofs.ReadBack.{header_reads_back}
use Rattle.dpx_header.proofs.writing.write_header.Goals as goal

pub returns-clause-header : goal.returns-clause-header
returns-clause-header c =
    header_made c.args.head.now _ _ _ _ _ _ _ c.clear.ensures c.put_file_fields.ensures.fields c.put_image_fields.ensures c.put_element_fields.ensures c.put_unused_fields.ensures c.put_orientation_fields.ensures c.put_industry_fields.ensures

pub returns-clause-fields : goal.returns-clause-fields
returns-clause-fields c =
    λ field has. subst (λ bytes. Stands bytes field) (sym (returns-clause-header c)) (header_stands c.args.head.now field c.put_file_fields.ensures.title has)

pub returns-clause-apart : goal.returns-clause-apart
returns-clause-apart c = header_apart c.args.head.now c.put_file_fields.ensures.title

pub returns-clause-others : goal.returns-clause-others
returns-clause-others c =
    λ at outside. ap (λ bytes. get_or bytes at 0) (returns-clause-header c) ∙ header_others c.args.head.now at c.put_file_fields.ensures.title outside

pub returns-clause-reads_back : goal.returns-clause-reads_back
returns-clause-reads_back c =
    λ len whole. ap (λ bytes. info_of bytes len) (returns-clause-header c) ∙ header_reads_back c.args.head.now len c.requires c.put_file_fields.ensures.title whole
