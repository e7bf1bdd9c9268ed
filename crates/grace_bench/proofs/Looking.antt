-- A look for what a generation dropped may begin once a wait is over that began with it, and again after each look.
use Rattle.std.proofs.Common.{◌≡◌, ℕ, List, [], ◌∷◌, ◌++◌, length, length-append, refl, sym, ap, subst, arith, ◌∙◌}
use Rattle.std.specs.Prelude.{Some, slice_get}
use Rattle.term_core.proofs.Places.{slice_get-append_one}
use Rattle.marks.specs.declared.kept.LookKind.{LookKind}
use Rattle.marks.specs.declared.kept.LookKind.TheVariants.{Both}
use Rattle.area_core.specs.declared.table.Published.{Published}
use Rattle.shared_words.specs.declared.view.WriterView.{WriterView}
use Rattle.shared_words.specs.Views.{newest_number}
use Rattle.shared_words.specs.Publishing.{with_next}
use Rattle.shared_words.specs.Slots.{LookMayBegin}
use Rattle.anchors.specs.Scans.{LooksMore}
use Rattle.grace_bench.specs.Used.{used_published}
use Rattle.grace_bench.specs.Waiting.{HasAsked, IsOver}

-- what was published last stands at the number of the newest generation
newest_at : (xs : List Published) (p : Published) → slice_get (xs ++ p ∷ []) (newest_number (xs ++ p ∷ [])) ≡ Some p
newest_at xs p =
    let sum = length-append xs (p ∷ []) in
    let place : newest_number (xs ++ p ∷ []) ≡ length xs = omega (arith, sum) in
    ap (λ (n : ℕ). slice_get (xs ++ p ∷ []) n) place ∙ slice_get-append_one xs p

pub may_look : (before old new : WriterView) → old ≡ with_next used_published before → HasAsked old new → IsOver new (newest_number old.published) → LookMayBegin new Both 2
may_look before old new next asked over = record {
  generation = newest_number old.published;
  ended = record {
    need = over.need;
    kept = over.taken;
    reached = over.reached;
    published = used_published;
    at = ap (λ (xs : List Published). slice_get xs (newest_number old.published)) asked.published ∙ subst (λ (xs : List Published). slice_get xs (newest_number xs) ≡ Some used_published) (sym (ap (λ (w : WriterView). w.published) next)) (newest_at before.published used_published);
    gone = refl;
  };
}

pub may_again : (old new : WriterView) (kind : LookKind) (serial : ℕ) → LooksMore old new → LookMayBegin old kind serial → LookMayBegin new kind serial
may_again old new kind serial more may = subst (λ (w : WriterView). LookMayBegin w kind serial) (sym more.same) (record {
  generation = may.generation;
  ended = record { need = may.ended.need; kept = may.ended.kept; reached = may.ended.reached; published = may.ended.published; at = may.ended.at; gone = may.ended.gone };
})
