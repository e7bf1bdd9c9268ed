-- What a member finds that tries to take the lead, and what it knows while it leads.
-- Source: Erlang/OTP erts internal documentation, ThreadProgress: one of the managed threads is the leader.
use Rattle.std.specs.Prelude.{◌≡◌, ℕ, ◌+◌, ◌-◌, ◌≤◌, ◌==◌, if◌then◌else◌, ◌∷◌, length, Some}
use Rattle.prgr_core.specs.declared.member.TheConstants.{MOST_MEMBERS}
use Rattle.prgr_core.specs.declared.member.Scans.{Scans}
use Rattle.prgr_core.specs.declared.member.Role.TheVariants.{Leads}
use Rattle.shared_words.specs.declared.view.FoundWord.TheVariants.{LeaderWord}
use Rattle.shared_words.specs.declared.view.MemberView.{MemberView}
use Rattle.shared_words.specs.Kinds.{lead_found}
use Rattle.progress_words.specs.Reports.{IsAwake}
use Rattle.progress_words.specs.declared.answers.Lead.{Lead}
use Rattle.progress_words.specs.declared.answers.Lead.TheVariants.{Led, Held}

-- the answer to a word of the leader that was found: nobody led, or this member did
abbrev pub answer_to : ℕ → Lead
answer_to word = if word == 0 then Led else Held (word - 1)

-- the one exchange found this word of the leader, and the member leads where it told that nobody did
pub record HasTried (old new : MemberView) (answer : Lead) : Type 0 where
  pub word : ℕ
  pub leader : word ≤ MOST_MEMBERS
  pub answered : answer ≡ answer_to word
  pub view : new ≡ lead_found word old
  -- the word was loaded in this call
  pub loaded : new.found ≡ LeaderWord word ∷ old.found

-- the member knows what it knew, and has found that this one leads
abbrev pub held_by : ℕ → MemberView → MemberView
held_by number m = record m { found = LeaderWord (number + 1) ∷ m.found }

-- the member leads and is awake, and what it has scanned has a place for each member that there may be
pub record IsLeader (m : MemberView) : Type 0 where
  pub awake : IsAwake m
  pub scans : Scans
  pub leads : m.member.role ≡ Leads scans
  pub places : length scans.members ≡ MOST_MEMBERS

-- it leads so, and knows that this is the counter
pub record LeadsAt (counter : ℕ) (m : MemberView) : Type 0 where
  pub awake : IsAwake m
  pub scans : Scans
  pub leads : m.member.role ≡ Leads scans
  pub places : length scans.members ≡ MOST_MEMBERS
  pub knows : scans.counter ≡ Some counter
