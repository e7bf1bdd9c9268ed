-- Before its first command a permit shows a lawful state.
use Rattle.std.proofs.Common.{◌≡◌, ℕ, Option, List, [], take, slice_get, Some, None, unwrap_or, option_map, refl, sym, ap, subst, ◌∙◌, arith}
use Rattle.server_core.specs.ServerState.{empty_state}
use Rattle.server_core.proofs.EmptyState.{empty_sound}
use Rattle.script_core.specs.declared.script.Script.{Script}
use Rattle.script_core.specs.Processes.{first_number, spawn_number}
use Rattle.script_core.specs.Sound.{IsScript}
use Rattle.run_log.specs.Legal.{commands_of}
use Rattle.write_permit.specs.declared.holder.Holder.TheVariants.{Free}
use Rattle.write_permit.specs.declared.loader_run.LoaderRun.{LoaderRun}
use Rattle.write_permit.specs.declared.book.Book.{Book}
use Rattle.write_permit.specs.Agreement.{AgreesWithServer}
use Rattle.write_permit.specs.Book.{HaveBegun, IsBook, IsLog, IsPermit}
use Rattle.write_permit.specs.Permit.{done_of}

none_done : (loaders : List LoaderRun) → ((k : ℕ) (l : LoaderRun) → slice_get loaders k ≡ Some l → l.done ≡ 0) → (k : ℕ) → done_of loaders k ≡ 0
none_done loaders none k = by (slice_get loaders k) refl
  where
    by : (o : Option LoaderRun) → slice_get loaders k ≡ o → unwrap_or (option_map (λ (l : LoaderRun). l.done) o) 0 ≡ 0
    by None e = refl
    by (Some l) e = none k l e

pub begun_log : (s : Script) (loaders : List LoaderRun) → HaveBegun s.loaders loaders → IsLog s empty_state [] loaders
begun_log s loaders begun =
    let none = none_done loaders (λ k l h. (begun.each k l h).0) in
    record {
      replays = tt;
      server_is = refl;
      many = begun.many;
      within = λ k. omega (arith, none k);
      in_order = λ k. sym (ap (λ n. take n (commands_of s k)) (none k));
      numbers = λ k l h.
          let e = begun.each k l h in
          let first : spawn_number s.loaders k 0 ≡ first_number s.loaders k = omega arith in
          e.1 ∙ sym first ∙ ap (spawn_number s.loaders k) (sym e.0);
    }

pub begun_permit : (s : Script) (loaders : List LoaderRun) → IsScript s → HaveBegun s.loaders loaders → IsPermit (record { script = s; server = empty_state; journal = []; loaders = loaders; holder = Free })
begun_permit s loaders sound begun = record { script = sound; log = begun_log s loaders begun; sound = empty_sound; purges = refl; holds = refl }

-- and keeps a lawful book
pub begun_book : (b : Book) → IsScript b.script → HaveBegun b.script.loaders b.loaders.items → b.server ≡ empty_state → b.journal ≡ [] → b.holder ≡ Free → b.modules.instances ≡ [] → IsBook b
begun_book b sound begun server journal holder instances = record {
  permit = subst IsPermit (λ i. record { script = b.script; server = sym server i; journal = sym journal i; loaders = b.loaders.items; holder = sym holder i }) (begun_permit b.script b.loaders.items sound begun);
  agrees = subst (AgreesWithServer b.modules.instances) (sym server) (subst (λ ms. AgreesWithServer ms empty_state) (sym instances) (record { current = λ name. refl; old = λ name. refl }));
}
