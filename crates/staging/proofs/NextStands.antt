-- Once the root is stored, the words stand for the state that is published.
use Rattle.std.proofs.Common.{◌≡◌, ℕ, ◌+◌, ◌<◌, ◌≤◌, inl, inr, List, [], ◌∷◌, ◌++◌, length, Option, Some, refl, sym, ap, subst, ◌∙◌, arith}
use Rattle.std.specs.Prelude.{unwrap_or}
use Rattle.std.proofs.lemmas.Bool.{false_from_ne_true}
use Rattle.std.proofs.lemmas.List.{length-append}
use Rattle.prgr_core.proofs.Parts.{slice_get-push_at, some_same}
use Rattle.term_core.specs.declared.atom.Mfa.{Mfa}
use Rattle.area_core.specs.declared.table.Published.{Published}
use Rattle.area_core.specs.Generations.{is_used}
use Rattle.area_core.specs.Map.{doom_place, word_at}
use Rattle.area_core.specs.Blocks.{Among}
use Rattle.area_core.specs.Step.{opening_published}
use Rattle.shared_words.specs.declared.view.WriterView.{WriterView}
use Rattle.shared_words.specs.Publishing.{kept_next, with_next}
use Rattle.shared_words.specs.Views.{newest_number, published_at}
use Rattle.shared_words.proofs.OpeningRule.{last_get}
use Rattle.progress_words.specs.Roots.{newest_of}
use Rattle.server_core.specs.ServerState.{ServerState}
use Rattle.literal_areas.specs.declared.areas.Areas.{Areas}
use Rattle.literal_areas.specs.declared.blocks.BlockUse.TheVariants.{Retired}
use Rattle.literal_areas.specs.Blocks.{serial_at, use_of}
use Rattle.literal_areas.specs.Owned.{IsListed}
use Rattle.literal_areas.proofs.Serials.{serial_here}
use Rattle.staging.specs.Standing.{DoomStands, ImagesKept, IsGoneFrom, IsSince, StandFor, WordsTell}
use Rattle.staging.specs.Upcoming.{IsUpcoming}
use Rattle.staging.proofs.Coming.{ComesNext}
use Rattle.staging.proofs.NextAreas.{apart_next, is_kept_next, kept_is, listed_next, next_listed}
use Rattle.staging.proofs.NextReads.{dropped_unused, shown_retired, shown_used}
use Rattle.staging.proofs.NextStays.{dropped_next}

newest_pushed : (xs : List Published) (p : Published) → newest_number (xs ++ p ∷ []) ≡ length xs
newest_pushed xs p = let long = length-append xs (p ∷ []) in omega (arith, long)

pub newest_next : (w : WriterView) (p : Published) → newest_of (with_next p w) ≡ p
newest_next w p =
    ap (λ (g : ℕ). published_at (w.published ++ p ∷ []) g) (newest_pushed w.published p) ∙ ap (λ (o : Option Published). unwrap_or o opening_published) (last_get w.published p)

doom_later : (s : ServerState) (serial last later word : ℕ) → last ≤ later → DoomStands s serial last word → DoomStands s serial later word
doom_later s serial last later word le stands = record { clear = stands.clear; set = λ doomed. let set = stands.set doomed in let reached = set.1 in (set.0, omega (arith, le, reached)) }

module _ (names : List Mfa) (s : ServerState) (pools : Areas) (w : WriterView) (p : Published) (next : ComesNext names s pools w) (up : IsUpcoming names s pools p) where
  -- the pools are those of the generation
  pub is_listed : IsListed pools p
  is_listed = record {
    stand = listed_next names s pools w p next up;
    used = λ serial used. next.blocks.used serial (shown_used names s p up.state next.keys_once serial used);
    retired = λ block serial since is. shown_retired names s p up.state serial ∙ next.blocks.retired block serial since is;
    past = λ serial retired.
        let dropped = next.sound.retired serial (sym (shown_retired names s p up.state serial) ∙ retired) in
        let known = dropped.known in
        let same = next.blocks.next in
        record { below = omega (arith, known, same); dead = λ block live. dropped_unused s next.sound serial dropped (next.blocks.live block serial live) };
  }

  long : length (w.published ++ p ∷ []) ≡ length w.published + 1
  long = length-append w.published (p ∷ [])

  -- it has done with what is retired
  gone_next : (block serial since : ℕ) → use_of pools block ≡ Some (Retired serial since) → IsGoneFrom p block serial
  gone_next block serial since is = record {
    unused = false_from_ne_true (is_used p serial) (λ e. dropped_unused s next.sound serial (next.sound.retired serial (next.blocks.retired block serial since is)) (shown_used names s p up.state next.keys_once serial e));
    alone = λ a among same.
        some_same a.serial serial (sym (listed_next names s pools w p next up a among) ∙ ap (serial_at pools) same ∙ serial_here pools block (Retired serial since) is);
  }

  since_next : (block serial since : ℕ) → use_of pools block ≡ Some (Retired serial since) → IsSince (w.published ++ p ∷ []) block serial since
  since_next block serial since is =
      let when = next.words.since block serial since is in
      let reached = when.1 in
      let more = long in (
        when.0,
        omega (arith, reached, more),
        λ g q at retired.
            elim (slice_get-push_at w.published p g q at) as (λ _. since ≤ g) [
              | inl before ↦ when.2 g q before retired
              | inr last ↦ let place = last.0 in omega (arith, reached, place)
            ],
        λ g q at past.
            elim (slice_get-push_at w.published p g q at) as (λ _. IsGoneFrom q block serial) [
              | inl before ↦ when.3 g q before past
              | inr last ↦ subst (λ (x : Published). IsGoneFrom x block serial) (sym last.1) (gone_next block serial since is)
            ],
      )

  words_next : WordsTell s pools (with_next p w)
  words_next = record {
    retire = next.words.retire;
    since = since_next;
    free = next.words.free;
    doom = λ block serial big is. doom_later s serial (length w.published) (length (w.published ++ p ∷ [])) (word_at w.words (doom_place block)) (let more = long in omega (arith, more)) (next.words.doom block serial big is);
  }

  images_next : ImagesKept s pools (kept_next w p)
  images_next = record {
    areas = is_kept_next names s pools w p next up;
    images = λ k at. (kept_is names s pools w p next up k at).image;
    apart = apart_next names s pools w p next up;
  }

  pub stands_next : p.root.bp < 2 → StandFor names s pools (with_next p w)
  stands_next bp = record {
    newest_is = record {
      stood = s;
      sound = next.sound;
      since = record { same = refl; fewer = λ serial is. is; more = λ serial is. is };
      shows = inl (ap (λ (x : Published). x.state) (newest_next w p) ∙ up.state);
    };
    numbered = next.numbered;
    keys_once = next.keys_once;
    knows = next.knows;
    narrow = next.narrow;
    bp = subst (λ (x : Published). x.root.bp < 2) (sym (newest_next w p)) bp;
    listed = λ a at used. listed_next names s pools w p next up a (subst (λ (x : Published). Among x.areas a) (newest_next w p) at);
    stay = λ k at. subst (λ (x : Published). Among x.areas k.area) (sym (newest_next w p)) (next_listed names s pools w p next up k.area (kept_is names s pools w p next up k at).stands);
    blocks = next.blocks;
    placed = next.placed;
    images = images_next;
    words = words_next;
    dropped = dropped_next names s pools w p next up;
  }
