-- Grace follows from the progress invariant.
use Rattle.std.proofs.Common.{◌≡◌, ℕ, ◌≤◌, Some, inl, inr, sym, subst, arith}
use Rattle.prgr_core.specs.declared.member.Member.{Member}
use Rattle.prgr_core.specs.Members.{HasLoaded, HasLoadedRoot}
use Rattle.prgr_core.specs.declared.member.Loaded.{Loaded}
use Rattle.prgr_core.specs.declared.member.Loaded.TheVariants.{Counter}
use Rattle.prgr_core.specs.declared.watcher.Watcher.{Watcher}
use Rattle.prgr_core.specs.Watchers.{IsClaimed}
use Rattle.prgr_core.specs.Machine.{Machine, IsWatcher, Readable, MayRead}
use Rattle.prgr_core.specs.Invariant.{ProgressInvariant, Grace}

-- who has loaded the root has loaded the counter
pub loaded_before_root : (loaded : Loaded) (c : ℕ) → HasLoadedRoot loaded c → HasLoaded loaded c
loaded_before_root (Counter d) c is = absurd is
loaded_before_root loaded c is = is

module _ (m : Machine) (h : ProgressInvariant m) (n v : ℕ) (was : m.WasRetired n v) (reached : v ≤ m.counter) where
  member_reads_later : (member : Member) → m.IsMember member → MayRead member → n ≤ member.generation
  member_reads_later member is may =
      elim may as (λ _. n ≤ member.generation) [
        | inl value ↦ let near = h.words_near member is value in h.confirmed_later member is n v was value (omega (arith, near))
        | inr enters ↦
            let c = enters.1.0 in
            let near = h.loads_near member is c (loaded_before_root member.loaded c enters.1.1) in
            h.loaded_later member is n v was c enters.1.1 (omega (arith, near))
      ]

  watcher_reads_later : (watcher : Watcher) → IsWatcher m watcher → IsClaimed watcher.phase → (g : ℕ) → watcher.generation ≡ Some g → n ≤ g
  watcher_reads_later watcher is claimed g root =
      let each = h.each_watcher watcher is in
      let near = each.claim_near claimed.0 claimed.1 in
      each.claim_later n v was claimed.0 g claimed.1 root (omega (arith, near, reached))

  pub reads_later : (g : ℕ) → Readable m g → n ≤ g
  reads_later g may =
      elim may as (λ _. n ≤ g) [
        | inl present ↦ subst (λ x. n ≤ x) (sym present) (h.needs_near n v was).0
        | inr others ↦ elim others as (λ _. n ≤ g) [
          | inl by_member ↦ subst (λ x. n ≤ x) by_member.3 (member_reads_later by_member.0 by_member.1 by_member.2)
          | inr by_watcher ↦ watcher_reads_later by_watcher.0 by_watcher.1 by_watcher.2 g by_watcher.3
        ]
      ]

-- grace holds of every machine that meets the invariant
pub grace_holds : (m : Machine) → ProgressInvariant m → Grace m
grace_holds m h = λ n v was reached g may. reads_later m h n v was reached g may
