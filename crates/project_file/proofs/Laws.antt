-- A text comes to one answer.
use Rattle.std.proofs.Common.{◌∙◌, ap, sym, inl, inr, arith, List, ℕ}
use Rattle.std.proofs.lemmas.Option.{none-some, same_Some}
use Rattle.toml.specs.Data.{Members}
use Rattle.project_file.specs.Projects.{IsRead, IsUnread, OneMeaning, project_of}

-- no text is read and isn't
never_both : (text : List ℕ) (ms : Members) → IsRead text ms → IsUnread text → ⊥
never_both text ms x (inl long) = omega (arith, x.0, long)
never_both text ms x (inr none) = none-some ms (sym (none x.1) ∙ x.2)

pub one_meaning : OneMeaning
one_meaning text a b (inl x) (inl y) = x.1 ∙ sym y.1
one_meaning text a b (inl x) (inr y) = absurd (never_both text y.0 y.1 x.0)
one_meaning text a b (inr x) (inl y) = absurd (never_both text x.0 x.1 y.0)
one_meaning text a b (inr x) (inr y) = x.2 ∙ ap project_of (same_Some x.0 y.0 (sym x.1.2 ∙ y.1.2)) ∙ sym y.2
