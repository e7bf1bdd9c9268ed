-- A leader that has found all members done may raise the counter, and what it knows at each end of a try.
use Rattle.std.proofs.Common.{◌≡◌, ℕ, ◌+◌, ◌%◌, ◌<◌, ◌≤◌, Bool, true, false, cond, List, ◌∷◌, ◌++◌, length, refl, sym, ap, subst, ◌∙◌, arith}
use Rattle.std.specs.Prelude.{Option, Some, None, ◌==◌}
use Rattle.std.proofs.lemmas.Bool.{or_left}
use Rattle.std.proofs.lemmas.List.{length-replicate}
use Rattle.prgr_core.specs.declared.member.TheConstants.{LAST_VALUE, MOST_MEMBERS}
use Rattle.prgr_core.specs.declared.member.Role.{Role}
use Rattle.prgr_core.specs.declared.member.Role.TheVariants.{Leads}
use Rattle.prgr_core.specs.declared.member.Scans.{Scans}
use Rattle.prgr_core.specs.Members as members
use Rattle.prgr_core.specs.Step.{delay_scan_of}
use Rattle.prgr_core.specs.Invariant.{CounterInRange}
use Rattle.shared_words.specs.declared.opening.Opening.{Opening}
use Rattle.shared_words.specs.declared.view.FoundWord.TheVariants.{DelayCount}
use Rattle.shared_words.specs.declared.view.MemberView.{MemberView}
use Rattle.shared_words.specs.declared.view.View.{View}
use Rattle.shared_words.specs.declared.view.View.TheVariants.{Member}
use Rattle.shared_words.specs.Seats.{member_of}
use Rattle.shared_words.specs.Kinds.{counter_found, MayRaise, MayScan, MayScanDelay, scans_of, known_counter, counter_raised, delay_looked, lead_found}
use Rattle.progress_words.specs.Reports.{IsAwake}
use Rattle.progress_words.specs.Leads.{IsLeader, LeadsAt}
use Rattle.progress_words.specs.Advances.{with_counter, words_found, delay_found, with_numbers, AreAllDone, FoundBy, HasFound, HasLooked}
use Rattle.progress_words.specs.declared.advances.Lag.{Lag}
use Rattle.progress_words.specs.declared.answers.Advance.TheVariants.{Advanced, Delayed}
use Rattle.progress_words.proofs.Scanning.{knows_as_leader, known, leads_through, loaded_through, are_scanned}

-- ---- who leads

-- once it has loaded the counter, it knows it
pub knows_now : (counter : ℕ) (m : MemberView) → IsLeader m → LeadsAt counter (with_counter counter m)
knows_now counter m h = record {
  awake = h.awake;
  scans = record h.scans { counter = Some counter };
  leads = ap (members.role_knowing counter) h.leads;
  places = h.places;
  knows = refl;
}

-- what a seat shows that has loaded it
pub counter_view : (counter : ℕ) (old new : View) → old ≡ Member (member_of old) → new ≡ counter_found counter old → member_of new ≡ with_counter counter (member_of old)
counter_view counter old new is found = ap member_of (found ∙ ap (counter_found counter) is)

pub leads_loaded : (counter : ℕ) (old new : View) → old ≡ Member (member_of old) → IsLeader (member_of old) → new ≡ counter_found counter old → LeadsAt counter (member_of new)
leads_loaded counter old new is leads found = subst (LeadsAt counter) (sym (counter_view counter old new is found)) (knows_now counter (member_of old) leads)

-- and after it has looked at members
pub leads_looked : (count counter : ℕ) (old new : MemberView) (found : Option Lag) → LeadsAt counter old → HasFound count counter old new found → LeadsAt counter new
leads_looked count counter old new found h looked = subst (LeadsAt counter) (sym looked.view) (leads_through counter looked.words old h)

pub still_leader : (counter : ℕ) (m : MemberView) → LeadsAt counter m → IsLeader m
still_leader counter m h = record { awake = h.awake; scans = h.scans; leads = h.leads; places = h.places }

-- who found that nobody led
pub leads_now : (old new : MemberView) → IsAwake old → new ≡ lead_found 0 old → IsLeader new
leads_now old new awake is = record {
  awake = subst IsAwake (sym is) awake;
  scans = members.no_scans None;
  leads = ap (λ (x : MemberView). x.member.role) is;
  places = length-replicate {A = Bool} MOST_MEMBERS false;
}

-- who leads and has scanned nothing
pub fresh_leader : (m n : MemberView) → IsAwake m → n ≡ counter_raised m → IsLeader n
fresh_leader m n awake is = record {
  awake = subst IsAwake (sym is) awake;
  scans = members.no_scans (Some (known_counter m + 1));
  leads = ap (λ (x : MemberView). x.member.role) is;
  places = length-replicate {A = Bool} MOST_MEMBERS false;
}

-- ---- the raise

-- each word may be looked at
pub may_scan : (opening : Opening) (counter other : ℕ) (m : MemberView) (words : List ℕ) → LeadsAt counter m → other < opening.members → MayScan opening other (words_found words m)
may_scan opening counter other m words h there = record { leader = knows_as_leader counter (words_found words m) (leads_through counter words m h); there = there }

-- the delay count of the value after the counter may be looked at
pub may_look_at_delay : (counter which : ℕ) (m : MemberView) → LeadsAt counter m → which ≡ (counter + 1) % 2 → MayScanDelay which m
may_look_at_delay counter which m h is = record { leader = knows_as_leader counter m h; is = is ∙ ap (λ (n : ℕ). (n + 1) % 2) (sym (known counter m h)) }

-- that one is the one that the leader knows of
pub delay_view : (counter which count : ℕ) (m new : MemberView) → LeadsAt counter m → which ≡ (counter + 1) % 2 → new ≡ delay_looked which count m → new ≡ delay_found count m
delay_view counter which count m new h is found = found ∙ ap (λ (n : ℕ). delay_looked n count m) (is ∙ ap (λ (n : ℕ). (n + 1) % 2) (sym (known counter m h)))

module _ (counter count : ℕ) (m : MemberView) (h : LeadsAt counter m) where
  places_stay : (b : Bool) (scans : Scans) → length (cond b (record scans { delay = true }) scans).members ≡ length scans.members
  places_stay true scans = refl
  places_stay false scans = refl

  counter_stays : (b : Bool) (scans : Scans) → (cond b (record scans { delay = true }) scans).counter ≡ scans.counter
  counter_stays true scans = refl
  counter_stays false scans = refl

  -- it leads as before once it has looked at the delay
  pub leads_delayed : LeadsAt counter (delay_found count m)
  leads_delayed = record {
    awake = h.awake;
    scans = delay_scan_of h.scans count;
    leads = ap (λ (role : Role). Leads (delay_scan_of (scans_of role) count)) h.leads;
    places = places_stay (count == 0) h.scans ∙ h.places;
    knows = counter_stays (count == 0) h.scans ∙ h.knows;
  }

-- all members are done, and no watcher delays the counter
pub may_raise : (opening : Opening) (counter : ℕ) (words : List ℕ) (m : MemberView) → LeadsAt counter m → opening.members ≤ MOST_MEMBERS → counter < LAST_VALUE → AreAllDone opening.members counter words → MayRaise opening (delay_found 0 (words_found words m))
may_raise opening counter words m h few below found =
    let after = leads_through counter words m h in
    let looked = leads_delayed counter 0 (words_found words m) after in
    let size : length words ≡ opening.members = found.all in record {
      leader = knows_as_leader counter (delay_found 0 (words_found words m)) looked;
      all = λ j there. are_scanned counter words m h found.done (omega arith) j (omega arith);
      delay = or_left (scans_of (delay_found 0 (words_found words m)).member.role).delay (opening.watchers == 0) refl;
      below = subst (λ (n : ℕ). n < LAST_VALUE) (sym (known counter (delay_found 0 (words_found words m)) looked)) below;
    }

pub may_raise_found : (opening : Opening) (counter count : ℕ) (old mid new : MemberView) (found : Option Lag) → LeadsAt counter old → opening.members ≤ MOST_MEMBERS → counter < LAST_VALUE → HasFound opening.members counter old mid found → found ≡ None → new ≡ delay_found count mid → count ≡ 0 → MayRaise opening new
may_raise_found opening counter count old mid new found h few below looked is delayed none =
    subst (MayRaise opening) (sym (delayed ∙ (λ i. delay_found (none i) (looked.view i)))) (may_raise opening counter looked.words old h few below (subst (FoundBy opening.members counter looked.words) is looked.cause))

-- ---- what an attempt tells

module _ (opening : Opening) (counter count : ℕ) (old loaded mid new : MemberView) (found : Option Lag) (leads : IsLeader old) (first : loaded ≡ with_counter counter old) (looked : HasFound opening.members counter loaded mid found) (all : found ≡ None) (delayed : new ≡ delay_found count mid) where
  -- what it knew once it had loaded the counter
  abbrev begun : MemberView
  begun = with_counter counter old

  done : AreAllDone opening.members counter looked.words
  done = subst (FoundBy opening.members counter looked.words) all looked.cause

  still : LeadsAt counter (words_found looked.words begun)
  still = leads_through counter looked.words begun (knows_now counter old leads)

  view : new ≡ delay_found count (words_found looked.words begun)
  view = delayed ∙ ap (delay_found count) (looked.view ∙ ap (words_found looked.words) first)

  -- the delay count was loaded behind the words
  counted : (delay_found count (words_found looked.words begun)).found ≡ DelayCount ((counter + 1) % 2) count ∷ with_numbers looked.words ++ old.found
  counted = λ i. DelayCount ((known counter (words_found looked.words begun) still i + 1) % 2) count ∷ loaded_through looked.words begun i

  -- it leads as before
  pub still_leads : LeadsAt counter new
  still_leads = subst (LeadsAt counter) (sym view) (leads_delayed counter count (words_found looked.words begun) still)

  module _ (below : counter < LAST_VALUE) (range : CounterInRange counter) where
    -- watchers delay the counter
    pub told_delayed : 1 ≤ count → HasLooked opening.members old new (Delayed count)
    told_delayed some = record {
      counter = counter;
      range = range;
      words = looked.words;
      cause = record { below = below; done = done; some = some };
      view = view;
      loaded = ap (λ (m : MemberView). m.found) view ∙ counted;
    }

    -- none does, and the counter is raised
    pub told_raised : (last : MemberView) → count ≡ 0 → last ≡ counter_raised new → HasLooked opening.members old last (Advanced (counter + 1))
    told_raised last none raised = record {
      counter = counter;
      range = range;
      words = looked.words;
      cause = record { below = below; all = done.all; done = done.done; next = refl };
      view = raised ∙ ap counter_raised (view ∙ ap (λ (n : ℕ). delay_found n (words_found looked.words begun)) none);
      loaded = ap (λ (m : MemberView). m.found) raised ∙ ap (λ (m : MemberView). m.found) view ∙ counted ∙ ap (λ (n : ℕ). DelayCount ((counter + 1) % 2) n ∷ with_numbers looked.words ++ old.found) none;
    }
