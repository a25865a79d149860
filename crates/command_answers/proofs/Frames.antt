-- From the first bytes of a file to the frame of the file.
use Rattle.std.proofs.Common.{◌≡◌, ℕ, ◌-◌, ◌*◌, ◌≤◌, List, ◌++◌, length, take, Some, Ok, Err, IsOk, IsOkAnd, refl, sym, ap, subst, ◌∙◌, arith}
use Rattle.std.proofs.Math.Nat.{mul-le-mul}
use Rattle.std.specs.List.{flat_map}
use Rattle.byteorder.specs.Endian.{big_bytes}
use Rattle.dpx_header.specs.declared.info.FrameInfo.{FrameInfo}
use Rattle.dpx_header.specs.declared.fault.DpxFault.{DpxFault}
use Rattle.dpx_header.specs.Frame.{IsFrame, need_of, stride}
use Rattle.dpx_header.specs.Reading.{info_of}
use Rattle.dpx_header.specs.Writing.{header_of}
use Rattle.dpx_pack.specs.Pixels.{pixels}
use Rattle.dpx_pack.proofs.Front.{pixels_front}
use Rattle.scan_source.specs.Answers.{first_bytes}
use Rattle.scan_source.proofs.Heads.{first_bytes_front}
use Rattle.command_answers.specs.Commands.Frame.{info_in, frame_head, frame_form, IsFrameForm, IsFrameCase}
use Rattle.command_answers.specs.ByFile.{IsRightBy}
use Rattle.outcome.specs.declared.Outcome.TheVariants.{Done, Refused}
use Rattle.outcome.specs.declared.Refused.TheVariants as refused

-- the file that asks for most
pub need_most : (info : FrameInfo) → IsFrame info → need_of info ≤ 84914180
need_most info is =
    let rows : info.height - 1 ≤ 4095 = omega (arith, is.most_height) in
    let row : stride info ≤ 20476 = omega (arith, is.most_width, is.most_pad) in
    let all : (info.height - 1) * stride info ≤ 4095 * 20476 = mul-le-mul rows row in
    omega (arith, is.most_start, is.most_width)

pub form_of_parts : (info : FrameInfo) (bytes header packed : List ℕ) → header ≡ header_of (frame_head info) → packed ≡ flat_map (big_bytes 4) (pixels info bytes) → header ++ packed ≡ frame_form info bytes
unfolding frame_form
form_of_parts info bytes header packed eh ep = rw (eh, ep) refl

form_front : (info : FrameInfo) (most : ℕ) (bytes : List ℕ) → need_of info ≤ most → frame_form info (take most bytes) ≡ frame_form info bytes
unfolding frame_form
form_front info most bytes within = ap (λ words. header_of (frame_head info) ++ flat_map (big_bytes 4) words) (pixels_front info most bytes within)

-- what the first bytes say of the pixels is what the file says
front_info : (bytes into : List ℕ) (len : ℕ) → len ≡ length bytes → into ≡ take 84914180 bytes → info_of (first_bytes 2048 into) len ≡ info_in bytes
front_info bytes into len len_is into_is =
    ap (λ b. info_of (first_bytes 2048 b) len) into_is ∙ ap (λ h. info_of h len) (first_bytes_front 2048 84914180 bytes (omega arith)) ∙ ap (info_of (first_bytes 2048 bytes)) len_is

-- the frame of the first bytes is that of the file
pub frame_done : (bytes into out : List ℕ) (len : ℕ) → IsOkAnd (info_of (first_bytes 2048 into) len) (λ info. IsFrame info × (out ≡ frame_form info into))
    → len ≡ length bytes → into ≡ take 84914180 bytes → IsRightBy (IsFrameCase (Some bytes)) (IsFrameForm (Some bytes)) Done out
frame_done bytes into out len made len_is into_is =
    let at : IsOkAnd (info_in bytes) (λ info. IsFrame info × (out ≡ frame_form info into))
    = subst (λ r. IsOkAnd r (λ info. IsFrame info × (out ≡ frame_form info into))) (front_info bytes into len len_is into_is) made in
    let form : IsFrameForm (Some bytes) out = elim (info_in bytes) as (λ r. IsOkAnd r (λ info. IsFrame info × (out ≡ frame_form info into)) → IsOkAnd r (λ info. out ≡ frame_form info bytes)) [
      | Ok info ↦ λ h. h.1 ∙ ap (frame_form info) into_is ∙ form_front info 84914180 bytes (need_most info h.0)
      | Err fault ↦ λ h. h
    ] at in
    record {
      case = elim (info_in bytes) as (λ r. IsOkAnd r (λ info. out ≡ frame_form info bytes) → IsOk r) [ Ok info ↦ λ _. refl | Err fault ↦ λ none. absurd none ] form;
      form = λ _. form;
    }

-- the fault of the first bytes is that of the file
pub frame_fault : (bytes into out : List ℕ) (len : ℕ) (fault : DpxFault) → info_of (first_bytes 2048 into) len ≡ Err fault
    → len ≡ length bytes → into ≡ take 84914180 bytes → IsRightBy (IsFrameCase (Some bytes)) (IsFrameForm (Some bytes)) (Refused (refused.Frame fault)) out
frame_fault bytes into out len fault is len_is into_is = record { case = sym (front_info bytes into len len_is into_is) ∙ is; form = λ same. absurd (cc) }

-- what was made of the pixels that the header tells
pub made_of : (bytes head out : List ℕ) (len : ℕ) (info : FrameInfo) → head ≡ first_bytes 2048 bytes → Ok info ≡ info_of head len → IsFrame info → out ≡ frame_form info bytes
    → IsOkAnd (info_of (first_bytes 2048 bytes) len) (λ i. IsFrame i × (out ≡ frame_form i bytes))
made_of bytes head out len info is read frame form =
    let e : info_of (first_bytes 2048 bytes) len ≡ Ok info = sym (read ∙ ap (λ h. info_of h len) is) in
    subst (λ r. IsOkAnd r (λ i. IsFrame i × (out ≡ frame_form i bytes))) (sym e) (frame, form)
