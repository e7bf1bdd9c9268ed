-- What a report tells: the generation of the root that was loaded behind the counter, which the member holds.
use Rattle.std.proofs.Common.{◌≡◌, ℕ, ◌+◌, ◌/◌, Bool, true, cond, ◌&&◌, ◌||◌, refl, sym, ap, subst, ◌∙◌, arith}
use Rattle.std.specs.Prelude.{Some, None}
use Rattle.std.proofs.lemmas.Bool.{lt-ltb}
use Rattle.prgr_core.specs.declared.member.TheConstants.{ENTERING, WAITING}
use Rattle.prgr_core.specs.Members as members
use Rattle.prgr_core.specs.Invariant.{CounterInRange}
use Rattle.area_core.specs.declared.table.Published.{Published}
use Rattle.shared_words.specs.declared.view.MemberView.{MemberView}
use Rattle.shared_words.specs.declared.view.View.{View}
use Rattle.shared_words.specs.declared.view.View.TheVariants.{Member}
use Rattle.shared_words.specs.Seats.{member_of, IsRooted}
use Rattle.shared_words.specs.Processes.{held_by_view, AreAtRest}
use Rattle.shared_words.specs.Views.{newest_number, published_at, seen_generations}
use Rattle.shared_words.specs.Kinds.{IsSameIn, MayLoadRoot, counter_found, root_found, RootLoaded, value_confirmed, now_entering}
use Rattle.shared_words.proofs.Rooted.{rooted_by_load}
use Rattle.progress_words.specs.Reports.{IsAwake, HoldsReported}
use Rattle.progress_words.specs.Leads.{IsLeader}
use Rattle.progress_words.specs.Advances.{with_counter}

-- the value after a counter is one
value_after : (counter : ℕ) → CounterInRange counter → members.is_value (counter + 1) ≡ true
value_after counter range =
    let above = lt-ltb ENTERING (counter + 1) (omega arith) in
    let below = lt-ltb (counter + 1) WAITING (omega (arith, range)) in
    λ i. above i && below i

-- who has reported is awake
pub awake_now : (Served : Published → Type 0) (old new : MemberView) (generation : ℕ) → HoldsReported Served old new generation → IsAwake new
awake_now Served old new generation told = subst IsAwake (sym told.view) (value_after told.counter told.range)

-- and leads where it led
pub leads_on : (Served : Published → Type 0) (old new : MemberView) (generation : ℕ) → HoldsReported Served old new generation → IsLeader old → IsLeader new
leads_on Served old new generation told h = record {
  awake = awake_now Served old new generation told;
  scans = record h.scans { counter = Some told.counter };
  leads = ap (λ (m : MemberView). m.member.role) told.view ∙ ap (members.role_knowing told.counter) h.leads;
  places = h.places;
}

-- the root word that its token keeps is that of the generation
pub rooted_now : (Served : Published → Type 0) (old : MemberView) (v w : View) (counter found root : ℕ) (new : MemberView) → v ≡ counter_found counter (Member old) → RootLoaded Served v w found → new ≡ value_confirmed (counter + 1) (member_of w) → root ≡ found → IsRooted root new
rooted_now Served old v w counter found root new first loaded last same =
    let told = subst (λ (x : View). RootLoaded Served x w found) first loaded in
    let held = rooted_by_load Served (with_counter counter old) w found refl told in
    subst (λ (z : ℕ × MemberView). IsRooted z.0 z.1) (λ i. (sym same i, sym last i)) (record { learnt = held.learnt; fits = held.fits; held = held.held })

-- a member whose word is the value after a counter holds the generation of its record
holds_now : (counter generation : ℕ) (entering : Bool) → CounterInRange counter → cond (members.is_value (counter + 1) || entering) (Some generation) None ≡ Some generation
holds_now counter generation entering range = ap (λ (b : Bool). cond (b || entering) (Some generation) None) (value_after counter range)

-- what a report tells, by the counter and the root that were loaded
pub reported_now : (Served : Published → Type 0) (old : MemberView) (v w : View) (counter found generation : ℕ) (new : MemberView) → CounterInRange counter → v ≡ counter_found counter (Member old) → RootLoaded Served v w found → new ≡ value_confirmed (counter + 1) (member_of w)
    → generation ≡ found / 32 → HoldsReported Served old new generation
reported_now Served old v w counter found generation new range first loaded last divided =
    let told = subst (λ (x : View). RootLoaded Served x w found) first loaded in
    let root = told.root in
    let code = told.fits.code in
    let bp = told.fits.bp in
    let term = told.fits.term in
    let here : generation ≡ newest_number (seen_generations w) = omega (arith, divided, root, code, bp, term) in
    let still : w ≡ Member (member_of w) = told.view ∙ ap (λ (x : View). Member (member_of x)) (sym told.view) in
    let known : member_of w ≡ member_of (root_found (seen_generations w) (Member (with_counter counter old))) = ap member_of told.view in
    subst (λ (n : MemberView). HoldsReported Served old n generation) (sym (last ∙ ap (value_confirmed (counter + 1)) known)) (record {
      counter = counter;
      range = range;
      learnt = told.learnt;
      some = told.some;
      newest = here;
      holds = holds_now counter (newest_number (seen_generations w)) _ range ∙ ap (λ (g : ℕ). Some g) (sym here);
      served = subst (λ (g : ℕ). Served (published_at (seen_generations w) g)) (sym here) told.served;
      areas = told.areas;
      named = λ a named listed. subst (λ (n : MemberView). IsSameIn (held_by_view old) (held_by_view n) a) known (told.named (with_counter counter old) (member_of w) refl still a named listed);
      view = refl;
    })

-- between turns a member that has loaded the counter may load the root
pub may_load_root : (old new : View) (counter : ℕ) → old ≡ Member (member_of old) → new ≡ counter_found counter old → (IsAwake (member_of old) → AreAtRest (member_of old)) → MayLoadRoot new
may_load_root old new counter is found rest =
    subst MayLoadRoot (sym (found ∙ ap (counter_found counter) is)) (λ loaded awake. rest awake)

-- a member that enters is not awake
pub entering_rests : (old new : MemberView) → new ≡ now_entering old → IsAwake new → AreAtRest new
entering_rests old new is awake = absurd (asleep (ap (λ (m : MemberView). members.is_value m.member.word) (sym is) ∙ awake))
  where
    asleep : members.is_value ENTERING ≡ true → ⊥
    asleep e = absurd (cc)
