-- Integers are staged and published under one key after the other.
use Rattle.std.proofs.Common.{◌≡◌, ◌≢◌, ℕ, zero, suc, ◌+◌, ◌*◌, ◌%◌, ◌<◌, ⊎_elim, true, false, List, [], ◌∷◌, ◌++◌, length, length-append, Option, Some, None, refl, sym, ap, subst, ◌∙◌, arith}
use Rattle.std.specs.Prelude.{◌==◌, slice_get, unwrap_or}
use Rattle.std.proofs.lemmas.Bool.{eqb-true, eq-eqb, and_parts}
use Rattle.std.proofs.lemmas.Bool.Decides.{nat_tests}
use Rattle.prgr_core.proofs.Parts.{slice_get-push_at}
use Rattle.atomic_table.specs.Seated.{TableId}
use Rattle.term_core.specs.declared.generation.KeyTerm.{KeyTerm}
use Rattle.term_core.specs.declared.generation.Holding.{Holding}
use Rattle.term_core.specs.declared.generation.Holding.TheVariants.{Word}
use Rattle.area_core.specs.declared.map.TheConstants.{BUCKETS}
use Rattle.area_core.specs.declared.table.Published.{Published}
use Rattle.area_core.specs.declared.table.KeptArea.{KeptArea}
use Rattle.area_core.specs.Generations.{has_serial, is_key_area, is_term_word}
use Rattle.area_core.specs.Map.{word_at, block_place}
use Rattle.area_core.specs.Blocks.{Among}
use Rattle.area_core.specs.Roots.{fresh_areas}
use Rattle.area_core.specs.Terms.{found_in, is_word_of}
use Rattle.area_core.specs.Step.{empty_generation, opening_published, to_publish}
use Rattle.area_core.proofs.Tests.{passed_by}
use Rattle.shared_words.specs.declared.opening.Opening.{Opening}
use Rattle.shared_words.specs.declared.seats.Member as tokens
use Rattle.shared_words.specs.declared.seats.Writer as writers
use Rattle.shared_words.specs.declared.view.MemberView.{MemberView}
use Rattle.shared_words.specs.declared.view.WriterView.{WriterView}
use Rattle.shared_words.specs.Views.{newest_number, published_at}
use Rattle.shared_words.specs.Kinds.{counter_kept}
use Rattle.shared_words.specs.Making.{IsHanding}
use Rattle.shared_words.specs.Publishing.{kept_next, with_next}
use Rattle.shared_words.proofs.OpeningRule.{last_get}
use Rattle.progress_words.specs.Tokens.{view_of, written_by, IsMemberOf}
use Rattle.progress_words.specs.Reports.{HoldsReported}
use Rattle.progress_words.specs.Leads.{IsLeader}
use Rattle.progress_words.specs.Roots.{newest_of}
use Rattle.term_table.specs.declared.change.Change.TheVariants.{Put}
use Rattle.term_table.specs.Keys.{Lacks, ChangesTo}
use Rattle.term_table.specs.Built.{held_in, key_count}
use Rattle.term_table.specs.Tables.{Terms, active_table, staging_table, words_in, IsTableOf, Stages}
use Rattle.term_table.specs.Staged.{HasStaged}
use Rattle.term_table.specs.Published.{MayPublishTerms, HasPublished, restaged}
use Rattle.term_table.specs.Laws.{IsElsewhere}
use Rattle.term_table.specs.Looked.{HasRead}
use Rattle.area_tests.specs.Keyed.{key_integer_word, keys_to, keyed_over, IsKeyed, HasKeys}
use Rattle.new_tables.specs.Leading.{IsLeading}
use Rattle.new_tables.proofs.Blank.{handing_blank}
use Rattle.new_tables.proofs.Emptied.{handing_empty, never, no_element}

none_among : {X : Type 0} (x : X) → Among {X = X} [] x → ⊥
none_among x is = no_element is.0 is.1

-- ---- the keys

pub keys_long : (n : ℕ) → length (keys_to n) ≡ n
keys_long zero = refl
keys_long (suc n) = ap suc (keys_long n)

abbrev key_at : ℕ → KeyTerm
key_at n = record { key = record { 0 = n }; holding = Word (key_integer_word n) }

-- each is one of the first, and holds its integer
key_is : (n i : ℕ) (k : KeyTerm) → slice_get (keys_to n) i ≡ Some k → (m : ℕ) × (m < n) × (k ≡ key_at m)
key_is zero i k at = absurd (no_element i at)
key_is (suc n) zero k at = (n, omega (arith), (let same : key_at n ≡ k = cc in sym same))
key_is (suc n) (suc i) k at = let was = key_is n i k at in (was.0, (let low = was.1 in omega (arith, low)), was.2)

no_area : (n serial : ℕ) → is_key_area (keyed_over 0 n) serial ≡ false
no_area zero serial = refl
no_area (suc n) serial = no_area n serial

lacks_next : (table n : ℕ) → Lacks (keyed_over table n) n
lacks_next table n k among same =
    let is = key_is n among.0 k among.1 in
    let own : k.key.0 ≡ is.0 = ap (λ (x : KeyTerm). x.key.0) is.2 in
    let low = is.1 in
    absurd (omega (arith, own, same, low))

-- one key more is a change
changes_next : (before after n : ℕ) → ChangesTo (Put (record { 0 = n }) (key_integer_word n)) (keyed_over before n) (keyed_over after (suc n))
changes_next before after n = record {
  here = (Word (key_integer_word n), record { term = key_at n; among = (0, refl); key_is = refl; holding_is = refl }, each);
  others = λ k apart. (
    λ among. less k apart among.0 among.1,
    λ among. (suc among.0, among.1),
  );
  placed = λ k serial a among apart holds before_a. absurd (none_among a before_a);
}
  where
    each : (k : KeyTerm) → Among (keys_to (suc n)) k → k.key.0 ≡ n → is_term_word (keyed_over after (suc n)) k.holding (key_integer_word n) ≡ true
    each k among same =
        let is = key_is (suc n) among.0 k among.1 in
        let own : k.key.0 ≡ is.0 = ap (λ (x : KeyTerm). x.key.0) is.2 in
        let holds : k.holding ≡ Word (key_integer_word n) = ap (λ (x : KeyTerm). x.holding) is.2 ∙ ap (λ (m : ℕ). Word (key_integer_word m)) (sym own ∙ same) in
        ap (λ (h : Holding). is_term_word (keyed_over after (suc n)) h (key_integer_word n)) holds ∙ eq-eqb (key_integer_word n) (key_integer_word n) refl

    less : (k : KeyTerm) → k.key.0 ≢ n → (i : ℕ) → slice_get (keys_to (suc n)) i ≡ Some k → Among (keys_to n) k
    less k apart zero at = absurd (apart (let same : key_at n ≡ k = cc in ap (λ (x : KeyTerm). x.key.0) (sym same)))
    less k apart (suc i) at = (i, at)

-- ---- a writer with keys

pub keyed_first : (table : TableId) (opening : Opening) (writer : writers.Writer) → IsHanding table opening 1 writer.seat → HasKeys 0 (written_by writer)
keyed_first table opening writer is =
    let blank = handing_blank table opening 1 writer is in record {
      published = λ p among. (0, 0, (handing_empty table opening 1 writer is).published p among);
      newest = ap (λ (xs : List Published). published_at xs (newest_number xs)) blank.published;
      long = ap (λ (xs : List Published). length xs) blank.published;
      kept = blank.kept;
      words = λ place off. blank.words place;
    }

-- ---- a key is staged: nothing but words of term tables, and waits, change

module _ (n : ℕ) (t u : Terms) (old new : WriterView) (h : HasKeys n old) (own : IsTableOf t old) (staged : HasStaged (Put (record { 0 = n }) (key_integer_word n)) t u old new) where
  published_still : new.published ≡ old.published
  published_still = ap (λ (w : WriterView). w.published) staged.same ∙ ap (λ (w : WriterView). w.published) staged.loaded.view

  pub keys_staged : HasKeys n new
  keys_staged = record {
    published = λ p among. h.published p (subst (λ (xs : List Published). Among xs p) published_still among);
    newest = ap (λ (xs : List Published). published_at xs (newest_number xs)) published_still ∙ h.newest;
    long = ap (λ (xs : List Published). length xs) published_still ∙ h.long;
    kept = ap (λ (w : WriterView). w.kept) staged.same ∙ ap (λ (w : WriterView). w.kept) staged.loaded.view ∙ h.kept;
    words = λ place off. staged.others place (λ at few. off (staging_table old) at (let two : staging_table old < 4 = omega (arith) in two) few) ∙ h.words place off;
  }

  -- the key is new
  found_none : found_in (words_in old.words (active_table old)) n ≡ None
  found_none = by_found (found_in (words_in old.words (active_table old)) n) refl
    where
      by_found : (o : Option ℕ) → found_in (words_in old.words (active_table old)) n ≡ o → found_in (words_in old.words (active_table old)) n ≡ None
      by_found None is = is
      by_found (Some word) is =
          let one = passed_by (is_word_of (newest_of old) n word) (newest_of old).state.keys (own.active.only n word is) in
          let key : one.0.key.0 ≡ n = eqb-true one.0.key.0 n (and_parts (one.0.key.0 == n) (is_term_word (newest_of old) one.0.holding word) one.3).0 in
          absurd (lacks_next (n % 4) n one.0 (subst (λ (p : Published). Among p.state.keys one.0) h.newest (one.1, one.2)) key)

  same_staging : staging_table new ≡ staging_table old
  same_staging = ap (λ (xs : List Published). ((published_at xs (newest_number xs)).root.term + 1) % 4) published_still

  -- one key more stands in the table
  pub counted_next : held_in (words_in new.words (staging_table new)) BUCKETS ≡ length (keys_to (suc n))
  counted_next =
      let more = staged.counted in
      let before : held_in (words_in old.words (active_table old)) BUCKETS ≡ n = own.counted ∙ ap (λ (p : Published). length p.state.keys) h.newest ∙ keys_long n in
      let none : key_count (found_in (words_in old.words (active_table old)) n) ≡ 0 = ap key_count found_none in
      let here : held_in (words_in new.words (staging_table old)) BUCKETS ≡ suc n = omega (arith, more, before, none) in
      ap (λ (table : ℕ). held_in (words_in new.words table) BUCKETS) same_staging ∙ here ∙ sym (keys_long (suc n))

  -- what is staged is the next generation's
  pub stages_next : ((q : Published) → ChangesTo (Put (record { 0 = n }) (key_integer_word n)) (newest_of old) q → Stages u q new) → (table : ℕ) → Stages u (keyed_over table (suc n)) new
  stages_next stands table = stands (keyed_over table (suc n)) (subst (λ (p : Published). ChangesTo (Put (record { 0 = n }) (key_integer_word n)) p (keyed_over table (suc n))) (sym h.newest) (changes_next (n % 4) table n))

-- ---- it is published

module _ (n : ℕ) (w : WriterView) (h : HasKeys n w) where
  abbrev next : Published
  next = keyed_over (suc n % 4) (suc n)

  next_is : restaged w (record empty_generation { keys = keys_to (suc n) }) [] ≡ next
  next_is =
      let term : (newest_of w).root.term ≡ n % 4 = ap (λ (p : Published). p.root.term) h.newest in
      let staging : staging_table w ≡ suc n % 4 = omega (arith, term) in
      let code : (newest_of w).root.code ≡ 0 = ap (λ (p : Published). p.root.code) h.newest in
      let bp : (newest_of w).root.bp ≡ 0 = ap (λ (p : Published). p.root.bp) h.newest in
      (λ i. to_publish (code i) (bp i) (staging i) (record empty_generation { keys = keys_to (suc n) }) [])

  none_kept : kept_next w next ≡ []
  none_kept = ap (λ (xs : List KeptArea). xs ++ fresh_areas xs next) h.kept

  each_keyed : (g : ℕ) (p : Published) → slice_get (w.published ++ next ∷ []) g ≡ Some p → IsKeyed p
  each_keyed g p at =
      ⊎_elim (λ (t : slice_get w.published g ≡ Some p). h.published p (g, t))
      (λ (t : (g ≡ length w.published) × (p ≡ next)). (suc n % 4, suc n, t.1))
      (slice_get-push_at w.published next g p at)

  place_big : (block at : ℕ) → block < 64 → block_place block at ≡ 1493 + block * 1024 + at
  place_big block at big = grind (arith, nat_tests)

  elsewhere : (entry : ℕ) → entry < 1024 → IsElsewhere (block_place 0 entry)
  elsewhere entry few table at low inside same =
      let index = place_big 0 entry (omega (arith)) in
      let term = place_big (5 + table) at (omega (arith, low)) in
      absurd (omega (arith, few, low, inside, same, index, term))

  may_next : (Served : Published → Type 0) (t : Terms) → Served next → Stages t next w → held_in (words_in w.words (staging_table w)) BUCKETS ≡ length (keys_to (suc n)) → MayPublishTerms Served t w next
  may_next Served t served staged counted = record {
    terms = staged;
    counted = counted;
    served = served;
    old_stays = λ g later p q serial le at_p at_q old. absurd (never (subst (λ (x : Published). has_serial x.state.old serial ≡ true) (each_keyed g p at_p).2 old));
    retired_stays = λ g later p q serial le at_p at_q old. absurd (never (subst (λ (x : Published). has_serial x.state.retired serial ≡ true) (each_keyed g p at_p).2 old));
    areas_go_on = record {
      apart = λ a c at_a at_c serial. absurd (no_element at_a.0 at_a.1);
      kept = λ k among. absurd (none_among k (subst (λ (xs : List KeptArea). Among xs k) none_kept among));
      new = λ k q a among before listed serial. absurd (none_among k among);
    };
    placed = λ a among is. absurd (none_among a among);
    code = λ entry few. eq-eqb (word_at w.words (block_place 0 entry)) 0 (h.words (block_place 0 entry) (elsewhere entry few));
    breakpoints = λ a among is. absurd (none_among a among);
    used = λ serial used. absurd (never (sym (no_area (suc n) serial) ∙ used));
    areas = λ k among. absurd (none_among k (subst (λ (xs : List KeptArea). Among xs k) none_kept among));
    fresh = record {
      fit = λ k among. absurd (none_among k among);
      images = λ k among. absurd (none_among k among);
      areas = λ g q counts at k among. absurd (none_among k among);
      apart = λ i j a b apart at_i at_j. absurd (no_element i (subst (λ (xs : List KeptArea). slice_get xs i ≡ Some a) none_kept at_i));
    };
  }

  pub may_publish_next : (Served : Published → Type 0) (t : Terms) → Served next → ((table : ℕ) → Stages t (keyed_over table (suc n)) w) → held_in (words_in w.words (staging_table w)) BUCKETS ≡ length (keys_to (suc n)) → MayPublishTerms Served t w (restaged w (record empty_generation { keys = keys_to (suc n) }) [])
  may_publish_next Served t served staged counted = subst (MayPublishTerms Served t w) (sym next_is) (may_next Served t served (staged (suc n % 4)) counted)

  pub keys_next : (t u : Terms) (new : WriterView) (generation : ℕ) → HasPublished t u (restaged w (record empty_generation { keys = keys_to (suc n) }) []) w new generation → HasKeys (suc n) new
  keys_next t u new generation is = subst (HasKeys (suc n)) (sym (is.view ∙ ap (λ (p : Published). counter_kept is.counter (with_next p w)) next_is)) (record {
    published = λ p among. each_keyed among.0 p among.1;
    newest = newest_next;
    long = long;
    kept = none_kept;
    words = h.words;
  })
    where
      long : length (w.published ++ next ∷ []) ≡ suc n + 1
      long = let was = h.long in let more = length-append w.published (next ∷ []) in omega (arith, was, more)

      newest_next : published_at (w.published ++ next ∷ []) (newest_number (w.published ++ next ∷ [])) ≡ next
      newest_next =
          let was = h.long in
          let last : newest_number (w.published ++ next ∷ []) ≡ length w.published = omega (arith, was, long) in
          ap (λ (g : ℕ). published_at (w.published ++ next ∷ []) g) last ∙ ap (λ (o : Option Published). unwrap_or o opening_published) (last_get w.published next)

-- ---- the leader looks

pub leads_on_looking : (Served : Published → Type 0) (table : TableId) (generation : ℕ) (old mid new : tokens.Member) → IsLeading table old → HoldsReported Served (view_of old) (view_of mid) generation → IsLeader (view_of mid) → IsMemberOf table new → HasRead (view_of mid) (view_of new) → IsLeading table new
leads_on_looking Served table generation old mid new h told leads of read = record {
  of = of;
  leads = subst IsLeader (sym read.view) (record { awake = leads.awake; scans = leads.scans; leads = leads.leads; places = leads.places });
  slots = ap (λ (m : MemberView). m.slots) read.view ∙ ap (λ (m : MemberView). m.slots) told.view ∙ h.slots;
}
