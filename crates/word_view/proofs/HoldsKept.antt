-- What is true of a view stays true over the calls by which its process names areas, and names them no more.
use Rattle.std.proofs.Common.{◌≡◌, ℕ, ◌⊎◌, inl, inr, List, sym, ap, subst}
use Rattle.std.specs.Prelude.{IsTrue}
use Rattle.term_core.specs.declared.hold.Kind.{Kind}
use Rattle.term_core.specs.declared.hold.Kind.TheVariants.{Frame, Literal}
use Rattle.area_core.specs.declared.table.Published.{Published}
use Rattle.area_core.specs.Blocks.{InstancesPlaced}
use Rattle.area_core.specs.Generations as tests
use Rattle.marks.specs.Names.{HasAnchor}
use Rattle.shared_words.specs.declared.seats.Member as tokens
use Rattle.shared_words.specs.declared.view.MemberView.{MemberView}
use Rattle.shared_words.specs.Processes.{AreCopied, held_by_view}
use Rattle.shared_words.specs.Rule.{AreAreasApart}
use Rattle.shared_words.specs.Seats.{IsMemberSeat}
use Rattle.anchors.specs.Drops.{AnchorsStored, HasDropped}
use Rattle.anchors.specs.Holds as slots
use Rattle.anchors.specs.Holds.{AnchorsApart, HasHeld, IsUnkilled, anchors_of, view_of}
use Rattle.anchors.proofs.Stored.{hold_stored, run_still}
use Rattle.code_law.specs.Served.{IsServed}
use Rattle.word_view.specs.Views.{IsReader, IsReading, IsView, StandsIn, Viewed}
use Rattle.word_view.proofs.Anchoring.{named_any, names_either, unkilled_still}

-- anchors alone were stored
module _ (v : Viewed) (b : tokens.Member) (root : b.root ≡ v.token.root) (stored : AnchorsStored v.process (view_of v.token) (view_of b)) where
  abbrev m : MemberView
  m = view_of v.token

  -- it reads what it read
  reading_kept : IsReading v.token.root m → IsReading b.root (view_of b)
  reading_kept h =
      subst (λ (z : ℕ × MemberView). IsReading z.0 z.1) (λ i. (sym root i, sym stored.same i)) (record { awake = h.awake; rooted = record { learnt = h.rooted.learnt; fits = h.rooted.fits; held = h.rooted.held } })

  -- and holds the generation that it held
  held_kept : held_by_view (view_of b) ≡ held_by_view m
  held_kept = ap held_by_view stored.same

  pub view_kept : IsMemberSeat v.table b.number b.seat → AreCopied b.anchors.items (view_of b) → IsUnkilled (anchors_of (view_of b) v.process) → AnchorsApart (anchors_of (view_of b) v.process)
      → ((serial : ℕ) → HasAnchor tests.anchor_names_area (anchors_of (view_of b) v.process) serial → StandsIn (held_by_view m) serial) → IsView v → IsView (record v { token = b })
  view_kept token copied unkilled apart named h = record {
    token = token;
    copied = copied;
    reading = reading_kept h.reading;
    reader = record {
      run = run_still v.opening v.process v.process m (view_of b) stored h.reader.run;
      unkilled = unkilled;
      apart = apart;
      served = at_held (IsServed v.names) h.reader.served;
      areas = at_held AreAreasApart h.reader.areas;
      placed = at_held InstancesPlaced h.reader.placed;
      used = at_held (λ (p : Published). (serial : ℕ) → IsTrue (tests.is_used p serial) → StandsIn p serial) h.reader.used;
      named = λ serial anchor. subst (λ (p : Published). StandsIn p serial) (sym held_kept) (named serial anchor);
    };
  }
    where
      at_held : (P : Published → Type 0) → P (held_by_view m) → P (held_by_view (view_of b))
      at_held P x = subst P (sym held_kept) x

-- ---- a hold

-- what is named then stands in the generation
held_stands : (p : Published) (kind : Kind) (serial : ℕ) (before after : List ℕ) → ((k : Kind) (s : ℕ) → slots.HoldsAnchors k after s → slots.HoldsAnchors k before s ⊎ ((k ≡ kind) × (s ≡ serial))) → ((s : ℕ) → HasAnchor tests.anchor_names_area before s → StandsIn p s) → StandsIn p serial
    → (s : ℕ) → HasAnchor tests.anchor_names_area after s → StandsIn p s
held_stands p kind serial before after names was new s anchor =
    elim (names_either anchor.word s anchor.passes) as (λ _. StandsIn p s) [
      | inl frame ↦ of Frame (names Frame s (record { place = anchor.place; word = anchor.word; at = anchor.at; passes = frame }))
      | inr literal ↦ of Literal (names Literal s (record { place = anchor.place; word = anchor.word; at = anchor.at; passes = literal }))
    ]
  where
    of : (k : Kind) → slots.HoldsAnchors k before s ⊎ ((k ≡ kind) × (s ≡ serial)) → StandsIn p s
    of k (inl old) = was s (named_any k before s old)
    of k (inr own) = subst (StandsIn p) (sym own.1) new

pub hold_kept : (v : Viewed) (b : tokens.Member) (kind : Kind) (serial : ℕ) → IsView v → b.root ≡ v.token.root → IsMemberSeat v.table b.number b.seat → AreCopied b.anchors.items (view_of b) → StandsIn (held_by_view (view_of v.token)) serial → HasHeld v.process kind serial (view_of v.token) (view_of b)
    → IsView (record v { token = b })
hold_kept v b kind serial h root token copied stands held =
    view_kept v b root (hold_stored v.process (view_of v.token) (view_of b) held.stored) token copied held.unkilled (held.apart h.reader.apart)
    (held_stands (held_by_view (view_of v.token)) kind serial (anchors_of (view_of v.token) v.process) (anchors_of (view_of b) v.process) (λ k s now. (held.names k s).0 now) h.reader.named stands) h

-- a refused one leaves all as it was
pub refused_kept : (v : Viewed) (b : tokens.Member) → IsView v → b.root ≡ v.token.root → IsMemberSeat v.table b.number b.seat → AreCopied b.anchors.items (view_of b) → view_of b ≡ view_of v.token → IsView (record v { token = b })
refused_kept v b h root token copied same = record {
  token = token;
  copied = copied;
  reading = subst (λ (z : ℕ × MemberView). IsReading z.0 z.1) (λ i. (sym root i, sym same i)) h.reading;
  reader = subst (IsReader v.names v.opening v.process) (sym same) h.reader;
}

-- ---- a drop

pub drop_kept : (v : Viewed) (b : tokens.Member) (kind : Kind) (serial : ℕ) → IsView v → b.root ≡ v.token.root → IsMemberSeat v.table b.number b.seat → AreCopied b.anchors.items (view_of b) → HasDropped v.process kind serial (view_of v.token) (view_of b) → IsView (record v { token = b })
drop_kept v b kind serial h root token copied dropped =
    view_kept v b root dropped.stored token copied (unkilled_still (view_of v.token) (view_of b) v.process kind serial dropped h.reader.unkilled) (dropped.apart h.reader.apart)
    (λ s anchor. elim (names_either anchor.word s anchor.passes) as (λ _. StandsIn (held_by_view (view_of v.token)) s) [
      | inl frame ↦ h.reader.named s (named_any Frame (anchors_of (view_of v.token) v.process) s ((dropped.names Frame s).0 (record { place = anchor.place; word = anchor.word; at = anchor.at; passes = frame })).0)
      | inr literal ↦ h.reader.named s (named_any Literal (anchors_of (view_of v.token) v.process) s ((dropped.names Literal s).0 (record { place = anchor.place; word = anchor.word; at = anchor.at; passes = literal })).0)
    ]) h
