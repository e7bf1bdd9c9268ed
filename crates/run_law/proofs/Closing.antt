-- What close tells of the tokens of all members is known of the members of the writer's view.
use Rattle.std.proofs.Common.{◌≡◌, ℕ, ◌<◌, ◌%◌, List, length, slice_get, Some, sym, ap, subst, ◌∙◌, arith}
use Rattle.std.proofs.lemmas.Option.{same_Some, slice_get_within}
use Rattle.atomic_table.specs.Seated.{TableId}
use Rattle.marks.specs.Kept.{IsKnown}
use Rattle.shared_words.specs.declared.seats.Member as tokens
use Rattle.shared_words.specs.declared.view.MemberView.{MemberView}
use Rattle.shared_words.specs.declared.view.WriterView.{WriterView}
use Rattle.shared_words.specs.Closing.{AreAllMembers, HasAllMembers, HaveMarks}
use Rattle.shared_words.specs.Processes.{process_of, under_of}
use Rattle.shared_words.specs.Rule.{IsBeginning}
use Rattle.shared_words.specs.Seats.{member_of}
use Rattle.run_log.proofs.ListPlaces.{get_within}
use Rattle.run_law.specs.Ended.{AreBeginnings, HaveCome}

module _ (table : TableId) (members : List tokens.Member) (old w : WriterView) (staffed : 0 < length old.members)
    (all : AreAllMembers table (length old.members) members) (has : HasAllMembers members old w) (marks : HaveMarks members w)
    (beginnings : AreBeginnings members w) where
  as_many : length w.members ≡ length members
  as_many = has.long ∙ sym all.all

  -- the token of a member of the writer's view
  token_of : (k : ℕ) (m : MemberView) → slice_get w.members k ≡ Some m → (token : tokens.Member) × ((slice_get members k ≡ Some token) × (member_of token.seat.me.0 ≡ m))
  token_of k m at =
      let token = get_within members k (omega (arith, slice_get_within w.members k m at, as_many)) in
      (token.0, (token.1, same_Some (member_of (token.0).seat.me.0) m (sym (has.each k token.0 token.1) ∙ at)))

  pub have_come : HaveCome w
  have_come = record {
    staffed = omega (arith, staffed, has.long);
    learnt = λ k m at. let token = token_of k m at in subst (λ (x : MemberView). IsBeginning x.seen w.published) token.1.1 (beginnings k token.0 token.1.0);
    known = λ number m below own.
        let token = token_of (number % length w.members) m own in
        let there : slice_get members (number % length members) ≡ Some token.0 = ap (λ (n : ℕ). slice_get members (number % n)) (sym as_many) ∙ token.1.0 in
        subst (λ (x : MemberView). IsKnown (under_of x) number (process_of x number) w.looks) token.1.1 (marks number token.0 below there);
  }
