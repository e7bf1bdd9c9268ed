-- The tokens of a table of few members and watchers as they begin.
use Rattle.std.proofs.Common.{◌≡◌, ℕ, ◌+◌, ◌<◌, ◌≤◌, List, [], ◌∷◌, ◌++◌, length, length-append, refl, sym, ap, subst, ◌∙◌, arith}
use Rattle.std.specs.Prelude.{slice_get}
use Rattle.std.proofs.lemmas.Option.{slice_get_within}
use Rattle.atomic_table.specs.Seated.{TableId}
use Rattle.prgr_core.specs.declared.member.TheConstants.{MOST_MEMBERS}
use Rattle.shared_words.specs.declared.table.TheConstants.{OPENING_ROOT}
use Rattle.shared_words.specs.declared.seats.Member as tokens
use Rattle.shared_words.specs.declared.seats.Watcher as watching
use Rattle.shared_words.specs.declared.view.MemberView.{MemberView}
use Rattle.shared_words.specs.declared.view.WatcherView.{WatcherView}
use Rattle.shared_words.specs.declared.view.View.TheVariants.{Member, Watcher}
use Rattle.shared_words.specs.Seats.{IsMemberSeat, IsRooted, member_of, watcher_of, counts_held}
use Rattle.shared_words.specs.Closing.{AreAllMembers}
use Rattle.shared_words.specs.Opening.{member_begun, watcher_begun}
use Rattle.shared_words.specs.Making.{IsMemberBegun, AreMembersBegun, AreWatchersBegun}
use Rattle.shared_words.specs.Kinds.{MayLead, MayWait}
use Rattle.shared_words.proofs.OpeningRule.{last_get}
use Rattle.shared_words.proofs.ShownMembers.{still_at}
use Rattle.marks.specs.Names.{IsAtRest}
use Rattle.marks.specs.Steps.{opening_process, nothing_kept}
use Rattle.marks.proofs.Opening.{opens}
use Rattle.shared_words.specs.declared.view.ProcessSlot.{ProcessSlot}
use Rattle.shared_words.specs.Processes.{slot_in, note_in, under_of, AreAtRest, AreCopied}
use Rattle.shared_words.proofs.SlotFrames.{rests}
use Rattle.progress_words.specs.Tokens.{view_of, watched_by, IsMemberOf, IsWatcherOf}
use Rattle.progress_words.specs.Delays.{IsIdle}

-- what is known of a token as it begins
pub record IsFresh (table : TableId) (k : ℕ) (token : tokens.Member) : Type 0 where
  pub of : IsMemberOf table token
  pub view : view_of token ≡ member_begun k
  pub rooted : IsRooted token.root (view_of token)

-- the root word of generation 0 is the one that the token keeps
begun_rooted : (k : ℕ) → IsRooted OPENING_ROOT (member_begun k)
begun_rooted k = record { learnt = omega arith; fits = record { code = omega arith; bp = omega arith; term = omega arith }; held = refl }

pub fresh_of : (table : TableId) (k : ℕ) (token : tokens.Member) → k < MOST_MEMBERS → IsMemberBegun table k token → IsFresh table k token
fresh_of table k token few begun =
    let view : view_of token ≡ member_begun k = ap member_of begun.view in
    let number = begun.number_is in record {
      of = record {
        few = omega arith;
        of_table = begun.of_table;
        view = begun.view ∙ ap Member (sym view);
        numbered = ap (λ (m : MemberView). m.member.number) view ∙ sym number;
      };
      view = view;
      rooted = subst (λ (z : ℕ × MemberView). IsRooted z.0 z.1) (λ i. (sym begun.root_is i, sym view i)) (begun_rooted k);
    }

-- ---- the tokens of all members

left : (table : TableId) (count : ℕ) (all rest : List tokens.Member) (token : tokens.Member) → all ≡ rest ++ token ∷ [] → AreMembersBegun table (count + 1) all → length rest ≡ count
left table count all rest token taken begun =
    let whole = begun.all in
    let long : length all ≡ length (rest ++ token ∷ []) = ap length taken in
    omega (arith, whole, long, length-append rest (token ∷ []))

-- the last one, once it is taken out
pub last_begun : (table : TableId) (count : ℕ) (all rest : List tokens.Member) (token : tokens.Member) → all ≡ rest ++ token ∷ [] → AreMembersBegun table (count + 1) all → IsMemberBegun table count token
last_begun table count all rest token taken begun =
    begun.each count token (ap (λ (xs : List tokens.Member). slice_get xs count) taken ∙ ap (λ (i : ℕ). slice_get (rest ++ token ∷ []) i) (sym (left table count all rest token taken begun)) ∙ last_get rest token)

pub rest_begun : (table : TableId) (count : ℕ) (all rest : List tokens.Member) (token : tokens.Member) → all ≡ rest ++ token ∷ [] → AreMembersBegun table (count + 1) all → AreMembersBegun table count rest
rest_begun table count all rest token taken begun = record {
  all = left table count all rest token taken begun;
  each = λ k other at. begun.each k other (ap (λ (xs : List tokens.Member). slice_get xs k) taken ∙ still_at rest (token ∷ []) k other at);
}

-- what is known of each as it begins
pub view_begun : (table : TableId) (k : ℕ) (token : tokens.Member) → IsMemberBegun table k token → view_of token ≡ member_begun k
view_begun table k token begun = ap member_of begun.view

pub of_begun : (table : TableId) (k : ℕ) (token : tokens.Member) → k < 16 → IsMemberBegun table k token → IsMemberOf table token
of_begun table k token few begun = (fresh_of table k token few begun).of

pub copied_begun : (table : TableId) (k : ℕ) (token : tokens.Member) → IsMemberBegun table k token → AreCopied token.anchors.items (view_of token)
copied_begun table k token begun = subst (AreCopied token.anchors.items) (sym (view_begun table k token begun)) begun.copied

-- the tokens of a new table are those of all its members
pub begun_all : (table : TableId) (count all : ℕ) (members : List tokens.Member) → AreMembersBegun table count members → all ≡ count → count ≤ MOST_MEMBERS → AreAllMembers table all members
begun_all table count all members begun same few = record {
  all = begun.all ∙ sym same;
  each = λ k token at.
      let inside = slice_get_within members k token at in
      let long = begun.all in
      let its = begun.each k token at in
      subst (λ (n : ℕ). IsMemberSeat table n token.seat) its.number_is (fresh_of table k token (omega (arith, inside, long, few)) its).of;
}

-- of two members, of which the second was taken out first
pub first_begun : (table : TableId) (all rest few : List tokens.Member) (first second : tokens.Member) → all ≡ rest ++ second ∷ [] → rest ≡ few ++ first ∷ [] → AreMembersBegun table 2 all → IsFresh table 0 first
first_begun table all rest few first second taken taken' begun = fresh_of table 0 first (omega arith) (last_begun table 0 rest few first taken' (rest_begun table 1 all rest second taken begun))

pub second_begun : (table : TableId) (all rest : List tokens.Member) (second : tokens.Member) → all ≡ rest ++ second ∷ [] → AreMembersBegun table 2 all → IsFresh table 1 second
second_begun table all rest second taken begun = fresh_of table 1 second (omega arith) (last_begun table 1 all rest second taken begun)

-- of the only member
pub only_begun : (table : TableId) (all rest : List tokens.Member) (member : tokens.Member) → all ≡ rest ++ member ∷ [] → AreMembersBegun table 1 all → IsFresh table 0 member
only_begun table all rest member taken begun = fresh_of table 0 member (omega arith) (last_begun table 0 all rest member taken begun)

-- ---- a watcher

-- what is known of a watcher's token as it begins
pub record IsReady (table : TableId) (token : watching.Watcher) : Type 0 where
  pub of : IsWatcherOf table token
  pub idle : IsIdle (watched_by token)

-- the token that was taken out is the only watcher's
pub only_watcher : (table : TableId) (all rest : List watching.Watcher) (token : watching.Watcher) → all ≡ rest ++ token ∷ [] → AreWatchersBegun table 1 all → IsReady table token
only_watcher table all rest token taken begun =
    let one : length all ≡ 1 = begun.all in
    let long : length all ≡ length (rest ++ token ∷ []) = ap length taken in
    let none : length rest ≡ 0 = omega (arith, one, long, length-append rest (token ∷ [])) in
    let its = begun.each 0 token (ap (λ (xs : List watching.Watcher). slice_get xs 0) taken ∙ ap (λ (i : ℕ). slice_get (rest ++ token ∷ []) i) (sym none) ∙ last_get rest token) in
    let view : watched_by token ≡ watcher_begun 0 = ap watcher_of its.view in record {
      of = record { of_table = its.of_table; view = its.view ∙ ap Watcher (sym view); counted = its.holds_is ∙ ap counts_held (sym view) };
      idle = ap (λ (v : WatcherView). v.watcher.phase) view;
    }

-- who begins is awake and follows
pub begun_may_lead : (m : MemberView) (k : ℕ) → m ≡ member_begun k → MayLead m
begun_may_lead m k is = subst MayLead (sym is) (record { awake = refl; follows = refl })

-- a member without a slot is between turns
pub empty_rests : (m : MemberView) → m.slots ≡ [] → AreAtRest m
empty_rests m none_stored process =
    let asleep = under_of (record (member_begun 0) { member = record (member_begun 0).member { word = 0 } }) in
    let rest = rests asleep process opening_process nothing_kept refl (opens asleep process) in
    let empty : IsAtRest (record opening_process { note = note_in m.notes process }) = record { frames = rest.frames; literals = rest.literals } in
    subst (λ (xs : List ProcessSlot). IsAtRest (record { slot = (slot_in xs process).slot; marks = (slot_in xs process).marks; note = note_in m.notes process })) (sym none_stored) empty

pub begun_may_wait : (m : MemberView) (k : ℕ) → m ≡ member_begun k → MayWait m
begun_may_wait m k is = subst MayWait (sym is) (record { awake = refl; follows = refl; rest = empty_rests (member_begun k) refl })
