-- The members of a table as they begin: the last one is taken out, and each is ready to report and to lead.
use Rattle.std.proofs.Common.{◌≡◌, ℕ, ◌<◌, ◌≤◌, List, [], ◌∷◌, ◌++◌, length, length-append, get_or, ap, arith, ◌∙◌}
use Rattle.std.specs.Prelude.{Some, slice_get, All}
use Rattle.std.proofs.lemmas.Option.{slice_get_within, slice_get-get_or}
use Rattle.std.proofs.lemmas.List.Elements.{All-nil, All-from_get_or}
use Rattle.atomic_table.specs.Seated.{TableId}
use Rattle.prgr_core.specs.declared.member.TheConstants.{MOST_MEMBERS}
use Rattle.shared_words.specs.declared.seats.Member as tokens
use Rattle.shared_words.specs.declared.view.MemberView.{MemberView}
use Rattle.shared_words.specs.Making.{IsMemberBegun, AreMembersBegun}
use Rattle.shared_words.proofs.OpeningRule.{last_get}
use Rattle.progress_words.specs.Tokens.{view_of}
use Rattle.new_tables.specs.Running.{IsReady}
use Rattle.new_tables.proofs.Begun.{fresh_of, begun_may_lead}

begun_ready : (table : TableId) (k : ℕ) (token : tokens.Member) → k < MOST_MEMBERS → IsMemberBegun table k token → IsReady table token
begun_ready table k token few begun =
    let fresh = fresh_of table k token few begun in
    record { of = fresh.of; may = begun_may_lead (view_of token) k fresh.view; slots = ap (λ (m : MemberView). m.slots) fresh.view }

each_in : (P : tokens.Member → Type 0) (xs : List tokens.Member) → ((k : ℕ) (x : tokens.Member) → slice_get xs k ≡ Some x → P x) → All P xs
each_in P [] at = All-nil P
each_in P (x ∷ xs) at = All-from_get_or P (x ∷ xs) x (λ k within. at k (get_or (x ∷ xs) k x) (slice_get-get_or (x ∷ xs) k x within))

pub last_ready : (table : TableId) (count : ℕ) (all rest : List tokens.Member) (last : tokens.Member) → count ≤ MOST_MEMBERS → all ≡ rest ++ last ∷ [] → AreMembersBegun table count all → IsReady table last
last_ready table count all rest last few taken begun =
    let long : length all ≡ length (rest ++ last ∷ []) = ap length taken in
    let counted : length all ≡ count = begun.all in
    let sum = length-append rest (last ∷ []) in
    begun_ready table (length rest) last (omega (arith, few, long, counted, sum)) (begun.each (length rest) last (ap (λ (xs : List tokens.Member). slice_get xs (length rest)) taken ∙ last_get rest last))

pub all_ready : (table : TableId) (count : ℕ) (all : List tokens.Member) → count ≤ MOST_MEMBERS → AreMembersBegun table count all → All (λ (token : tokens.Member). IsReady table token) all
all_ready table count all few begun =
    let counted : length all ≡ count = begun.all in
    each_in (λ (token : tokens.Member). IsReady table token) all
    (λ k token at. let within = slice_get_within all k token at in begun_ready table k token (omega (arith, few, counted, within)) (begun.each k token at))
