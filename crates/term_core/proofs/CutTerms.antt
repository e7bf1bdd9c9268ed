-- Lemmas on the cut of a text at a comma outside of brackets, as a loop goes over its bytes.
use Rattle.std.proofs.Common.{◌≡◌, ℕ, ◌+◌, ◌-◌, ◌<◌, ◌≤◌, Bool, true, false, cond, List, [], ◌∷◌, ◌++◌, length, take, drop, get_or, None, Some, refl, sym, ap, ◌∙◌}
use Rattle.std.proofs.lemmas.List.{append_assoc, append-nil, take_more, drop_all, take_all}
use Rattle.term_core.specs.TermParts.{depth_behind, is_part_end, with_byte, cut_at_depth}
use Rattle.term_core.proofs.Lefts.{left_byte, rest_is}

-- what is left, by its first byte
cut_left : (text : List ℕ) (at depth c : ℕ) (b : Bool) → c ≡ get_or text at 0 → at < length text → is_part_end depth c ≡ b →
    cut_at_depth depth (drop at text) ≡ cond b (record { front = []; rest = Some (drop (at + 1) text) }) (with_byte c (cut_at_depth (depth_behind depth c) (drop (at + 1) text)))
cut_left text at depth c b is less test =
    ap (cut_at_depth depth) (left_byte text at c is less)
    ∙ ap (λ e. cond e (record { front = []; rest = Some (drop (at + 1) text) }) (with_byte c (cut_at_depth (depth_behind depth c) (drop (at + 1) text)))) test

-- what is known between two bytes
pub record IsCut (text : List ℕ) (at depth : ℕ) : Type 0 where
  pub front : take at text ++ (cut_at_depth depth (drop at text)).front ≡ (cut_at_depth 0 text).front
  pub rest : (cut_at_depth depth (drop at text)).rest ≡ (cut_at_depth 0 text).rest

-- at the start all is left
pub cut_start : (text : List ℕ) → IsCut text 0 0
cut_start text = record { front = refl; rest = refl }

-- at the comma the cut is there
pub cut_here : (text : List ℕ) (at depth c : ℕ) → c ≡ get_or text at 0 → at < length text → is_part_end depth c ≡ true → IsCut text at depth →
    (take at text ≡ (cut_at_depth 0 text).front) × (Some (take (length text - (at + 1)) (drop (at + 1) text)) ≡ (cut_at_depth 0 text).rest)
cut_here text at depth c is less test h =
    let cut = cut_left text at depth c true is less test in (
      sym (append-nil (take at text)) ∙ ap (λ cut. take at text ++ cut.front) (sym cut) ∙ h.front,
      ap Some (rest_is text (at + 1)) ∙ ap (λ cut. cut.rest) (sym cut) ∙ h.rest,
    )

-- at any other byte it is behind
pub cut_behind : (text : List ℕ) (at depth c : ℕ) → c ≡ get_or text at 0 → at < length text → is_part_end depth c ≡ false → IsCut text at depth → IsCut text (at + 1) (depth_behind depth c)
cut_behind text at depth c is less test h =
    let cut = cut_left text at depth c false is less test in
    let later = cut_at_depth (depth_behind depth c) (drop (at + 1) text) in
    let one : take (at + 1) text ≡ take at text ++ c ∷ [] = take_more text at 0 less ∙ ap (λ y. take at text ++ y ∷ []) (sym is) in
    record {
      front = ap (λ front. front ++ later.front) one ∙ append_assoc (take at text) (c ∷ []) later.front ∙ ap (λ cut. take at text ++ cut.front) (sym cut) ∙ h.front;
      rest = ap (λ cut. cut.rest) (sym cut) ∙ h.rest;
    }

-- and at the end there is none
pub cut_nowhere : (text : List ℕ) (at depth : ℕ) → length text ≤ at → IsCut text at depth → (text ≡ (cut_at_depth 0 text).front) × (None ≡ (cut_at_depth 0 text).rest)
cut_nowhere text at depth past h =
    let none = drop_all at text past in
    let all = take_all at text past in (
      sym all ∙ sym (append-nil (take at text)) ∙ ap (λ left. take at text ++ (cut_at_depth depth left).front) (sym none) ∙ h.front,
      ap (λ left. (cut_at_depth depth left).rest) (sym none) ∙ h.rest,
    )
