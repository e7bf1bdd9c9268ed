-- What a leader knows once it has found the words of members: who is done is scanned, and it leads as before.
use Rattle.std.proofs.Common.{◌≡◌, ℕ, zero, suc, ◌+◌, ◌<◌, ◌≤◌, Bool, true, false, cond, List, [], ◌∷◌, length, length-set, refl, sym, ap, subst, ◌∙◌, arith}
use mathlib.Core.Logic.{dite}
use native.Mathlib.Decide.{ℕ_discrete}
use Rattle.std.specs.Prelude.{Option, Some, slice_get, slice_set, unwrap_or, IsTrue, ◌==◌}
use Rattle.std.proofs.lemmas.Bool.{eq-eqb, or_left, or_right}
use Rattle.prgr_core.specs.declared.member.TheConstants.{WAITING, MOST_MEMBERS}
use Rattle.prgr_core.specs.declared.member.Role.{Role}
use Rattle.prgr_core.specs.declared.member.Role.TheVariants.{Leads}
use Rattle.prgr_core.specs.declared.member.Scans.{Scans}
use Rattle.prgr_core.specs.Members as members
use Rattle.prgr_core.specs.Step.{scan_of}
use Rattle.atomic_table.specs.Seated.{TableId}
use Rattle.shared_words.specs.declared.seats.Member as tokens
use Rattle.shared_words.specs.declared.view.FoundWord.{FoundWord}
use Rattle.shared_words.specs.declared.view.FoundWord.TheVariants.{MemberWord}
use Rattle.shared_words.specs.declared.view.MemberView.{MemberView}
use Rattle.shared_words.specs.declared.view.View.TheVariants.{Member}
use Rattle.shared_words.specs.Seats.{IsSameSeat}
use Rattle.shared_words.specs.Kinds.{KnowsAsLeader, scans_of, known_counter, word_scanned}
use Rattle.progress_words.specs.Tokens.{view_of, IsMemberOf, IsSameMember}
use Rattle.progress_words.specs.Leads.{LeadsAt}
use Rattle.progress_words.specs.Advances.{words_found, AreLoaded, AreDone, IsBehind, HasFound}
use Rattle.progress_words.specs.declared.advances.Lag.{Lag}
use Rattle.progress_words.proofs.Tokens.{still_token, same_again, view_is}

-- ---- lists

got_same : {A : Type 0} (xs : List A) (k : ℕ) (x : A) → k < length xs → slice_get (slice_set xs k x) k ≡ Some x
got_same [] k x within = absurd (omega arith)
got_same (y ∷ ys) zero x within = refl
got_same (y ∷ ys) (suc k) x within = got_same ys k x (omega arith)

got_other : {A : Type 0} (xs : List A) (k j : ℕ) (x : A) → (j ≡ k → ⊥) → slice_get (slice_set xs k x) j ≡ slice_get xs j
got_other [] k j x apart = refl
got_other (y ∷ ys) zero zero x apart = absurd (apart refl)
got_other (y ∷ ys) zero (suc j) x apart = refl
got_other (y ∷ ys) (suc k) zero x apart = refl
got_other (y ∷ ys) (suc k) (suc j) x apart = got_other ys k j x (λ e. apart (ap suc e))

-- ---- one word

-- it may take the steps of a leader
pub knows_as_leader : (counter : ℕ) (m : MemberView) → LeadsAt counter m → KnowsAsLeader m
knows_as_leader counter m h = record {
  leads = subst members.IsLeading (sym h.leads) tt;
  knows = subst (λ (role : Role). members.KnowsCounter role (unwrap_or (scans_of role).counter 0)) (sym h.leads) (h.knows ∙ ap (λ (o : Option ℕ). Some (unwrap_or o 0)) (sym h.knows));
}

-- and the counter that it knows is this
pub known : (counter : ℕ) (m : MemberView) → LeadsAt counter m → known_counter m ≡ counter
known counter m h = ap (λ (role : Role). unwrap_or (scans_of role).counter 0) h.leads ∙ ap (λ (o : Option ℕ). unwrap_or o 0) h.knows

module _ (counter k : ℕ) (scans : Scans) where
  places_stay : (b : Bool) → length (cond b (members.with_scanned k scans) scans).members ≡ length scans.members
  places_stay true = length-set scans.members k true
  places_stay false = refl

  counter_stays : (b : Bool) → (cond b (members.with_scanned k scans) scans).counter ≡ scans.counter
  counter_stays true = refl
  counter_stays false = refl

-- the scans after one word
scans_after : (counter k word : ℕ) (m : MemberView) (h : LeadsAt counter m) → scans_of (word_scanned k word m).member.role ≡ scan_of counter h.scans k word
scans_after counter k word m h = λ i. scan_of (known counter m h i) (scans_of (h.leads i)) k word

-- it leads as before
pub leads_on : (counter k word : ℕ) (m : MemberView) → LeadsAt counter m → LeadsAt counter (word_scanned k word m)
leads_on counter k word m h =
    let b = members.is_done counter word in record {
      awake = h.awake;
      scans = scan_of counter h.scans k word;
      leads = ap Leads (scans_after counter k word m h);
      places = places_stay counter k h.scans b ∙ h.places;
      knows = counter_stays counter k h.scans b ∙ h.knows;
    }

-- ---- all words

-- each was loaded
pub loaded_through : (words : List ℕ) (m : MemberView) → AreLoaded words m (words_found words m)
loaded_through [] m = refl
loaded_through (word ∷ words) m = ap (λ (xs : List FoundWord). MemberWord (length words) word ∷ xs) (loaded_through words m)

pub all_loaded : (words : List ℕ) (old new : MemberView) → new ≡ words_found words old → AreLoaded words old new
all_loaded words old new is = ap (λ (m : MemberView). m.found) is ∙ loaded_through words old

pub leads_through : (counter : ℕ) (words : List ℕ) (m : MemberView) → LeadsAt counter m → LeadsAt counter (words_found words m)
leads_through counter [] m h = h
leads_through counter (word ∷ words) m h = leads_on counter (length words) word (words_found words m) (leads_through counter words m h)

-- each member that was found done is scanned
pub are_scanned : (counter : ℕ) (words : List ℕ) (m : MemberView) → LeadsAt counter m → AreDone counter words → length words ≤ MOST_MEMBERS → (j : ℕ) → j < length words → IsTrue (members.has_scanned (scans_of (words_found words m).member.role) j)
are_scanned counter [] m h done few j within = absurd (omega arith)
are_scanned counter (word ∷ words) m h done few j within =
    let k : ℕ = length words in
    let n = words_found words m in
    let before = leads_through counter words m h in
    let here : scans_of (word_scanned k word n).member.role ≡ members.with_scanned k before.scans = scans_after counter k word n before ∙ ap (λ (t : Bool). cond t (members.with_scanned k before.scans) before.scans) done.0 in
    let size : length before.scans.members ≡ MOST_MEMBERS = before.places in
    dite (ℕ_discrete j k)
    (λ (same : j ≡ k). ap (λ (sc : Scans). members.has_scanned sc j) here ∙ ap (λ (i : ℕ). unwrap_or (slice_get (slice_set before.scans.members k true) i) false) same ∙ ap (λ (o : Option Bool). unwrap_or o false) (got_same before.scans.members k true (omega arith)))
    (λ (other : j ≡ k → ⊥).
    let earlier = are_scanned counter words m h done.1 (omega arith) j (omega (arith, other)) in
    ap (λ (sc : Scans). members.has_scanned sc j) here ∙ ap (λ (o : Option Bool). unwrap_or o false) (got_other before.scans.members k j true other)
    ∙ ap (λ (role : Role). members.has_scanned (scans_of role) j) (sym before.leads) ∙ earlier)

-- ---- a look at all members

-- the first so many members were looked at, and each was done
pub record HaveLooked (table : TableId) (counter : ℕ) (old : tokens.Member) (count : ℕ) (new : tokens.Member) : Type 0 where
  pub token : IsMemberOf table new
  pub same : IsSameMember old new
  pub root : new.root ≡ old.root
  pub words : List ℕ
  pub all : length words ≡ count
  pub done : AreDone counter words
  pub view : view_of new ≡ words_found words (view_of old)
  pub loaded : AreLoaded words (view_of old) (view_of new)

-- who waits is done
pub waits_done : (counter word : ℕ) → word ≡ WAITING → members.is_done counter word ≡ true
waits_done counter word is = or_left (members.is_waiting word) (word == counter + 1) (eq-eqb word WAITING is)

-- and who has confirmed the value after the counter
pub confirmed_done : (counter word : ℕ) → word ≡ counter + 1 → members.is_done counter word ≡ true
confirmed_done counter word is = or_right (members.is_waiting word) (word == counter + 1) (eq-eqb word (counter + 1) is)

module _ (table : TableId) (counter : ℕ) (old mid new : tokens.Member) (k word : ℕ) (h : HaveLooked table counter old k mid) (seat : IsSameSeat mid.seat new.seat) (number : new.number ≡ mid.number) (anchors : new.anchors.items ≡ mid.anchors.items) (at : new.seat.me.0 ≡ Member (word_scanned k word (view_of mid))) where
  pub next_token : IsMemberOf table new
  next_token = still_token table mid new (word_scanned k word (view_of mid)) h.token seat number at refl

  pub next_same : IsSameMember old new
  next_same = record { seat = same_again old.seat mid.seat new.seat h.same.seat seat; number = number ∙ h.same.number; anchors = anchors ∙ h.same.anchors }

  pub next_view : view_of new ≡ words_found (word ∷ h.words) (view_of old)
  next_view = view_is new.seat (word_scanned k word (view_of mid)) at ∙ (λ i. word_scanned (sym h.all i) word (h.view i))

  pub next_loaded : AreLoaded (word ∷ h.words) (view_of old) (view_of new)
  next_loaded = all_loaded (word ∷ h.words) (view_of old) (view_of new) next_view

  -- one more is done
  pub one_more : new.root ≡ mid.root → members.is_done counter word ≡ true → HaveLooked table counter old (k + 1) new
  one_more root done = record {
    token = next_token;
    same = next_same;
    root = root ∙ h.root;
    words = word ∷ h.words;
    all = (let all = h.all in omega arith);
    done = (done, h.done);
    view = next_view;
    loaded = next_loaded;
  }

  -- a word that is no other is below the value after the counter
  pub below_next : LeadsAt counter (view_of old) → members.is_waiting word ≡ false → (members.is_waiting word ≡ false → word ≤ known_counter (view_of mid) + 1) → (word ≡ counter + 1 → ⊥) → word < counter + 1
  below_next leads awake near other =
      let still = leads_through counter h.words (view_of old) leads in
      let same : known_counter (view_of mid) ≡ counter = ap known_counter h.view ∙ known counter (words_found h.words (view_of old)) still in
      let most : word ≤ counter + 1 = subst (λ (n : ℕ). word ≤ n + 1) same (near awake) in
      omega (arith, other)

  -- this one is behind
  pub one_behind : (count : ℕ) (lag : Lag) → lag.member ≡ k → lag.confirmed ≡ word → k < count → members.is_waiting word ≡ false → word < counter + 1 → HasFound count counter (view_of old) (view_of new) (Some lag)
  one_behind count lag which what there awake behind = record {
    words = word ∷ h.words;
    cause = subst (λ (z : ℕ × ℕ). IsBehind count counter (word ∷ h.words) z.0 z.1) (λ i. (sym which i, sym what i)) (record {
      before = h.words;
      found = refl;
      place = h.all;
      done = h.done;
      there = there;
      awake = awake;
      behind = behind;
    });
    view = next_view;
    loaded = next_loaded;
  }
