-- The map after the insertion, its versions, and how many of them are live.
use Rattle.std.proofs.Common.{refl, sym, ap, ◌∙◌, Some, arith}
use Rattle.server_core.specs.ServerState.{live_count}
use Rattle.server_core.proofs.CurrentCode.{live_more, live_same, made_current, old_shown}
use Rattle.server_core.proofs.versions.VersionTable.make_current.Goals as goal

pub returns-then-not-has_old-clause-versions : goal.returns-then-not-has_old-clause-versions
returns-then-not-has_old-clause-versions c =
    let put = rw c.unwrap-previous.ensures at c.insert.ensures.entries in
    let seen = ap (λ r. r.versions) c.self.view_is in
    made_current c.self.inside.serials.entries _ c.args.self.now.versions c.args.«module».0 c.args.serial (record { current = Some c.args.serial; old = c.current.result }) seen refl c.current.ensures put

pub returns-else-not-has_old-clause-versions : goal.returns-else-not-has_old-clause-versions
returns-else-not-has_old-clause-versions c =
    let put = rw c.unwrap-previous.ensures at c.insert.ensures.entries in
    let seen = ap (λ r. r.versions) c.self.view_is in
    made_current c.self.inside.serials.entries _ c.args.self.now.versions c.args.«module».0 c.args.serial (record { current = Some c.args.serial; old = c.current.result }) seen refl c.current.ensures put

pub invariant_of-self : goal.invariant_of-self
invariant_of-self c =
    let put = rw c.unwrap-previous.ensures at c.insert.ensures.entries in
    let found = rw c.unwrap-previous.ensures at c.insert.ensures.old in
    let seen = ap (λ r. r.versions) c.self.view_is in
    let made = made_current c.self.inside.serials.entries _ c.args.self.now.versions c.args.«module».0 c.args.serial (record { current = Some c.args.serial; old = c.current.result }) seen refl c.current.ensures put in
    let none = old_shown c.self.inside.serials.entries c.args.self.now.versions c.args.«module».0 _ seen found ∙ sym c.has_old.ensures ∙ c.if-not-has_old.true in
    omega (arith, live_more c.args.self.now.versions _ c.args.«module».0 c.args.serial made none, ap (λ r. live_count r.versions) c.self.view_is)

pub invariant_of-self-else-not-has_old : goal.invariant_of-self-else-not-has_old
invariant_of-self-else-not-has_old c =
    let put = rw c.unwrap-previous.ensures at c.insert.ensures.entries in
    let found = rw c.unwrap-previous.ensures at c.insert.ensures.old in
    let seen = ap (λ r. r.versions) c.self.view_is in
    let made = made_current c.self.inside.serials.entries _ c.args.self.now.versions c.args.«module».0 c.args.serial (record { current = Some c.args.serial; old = c.current.result }) seen refl c.current.ensures put in
    let some = old_shown c.self.inside.serials.entries c.args.self.now.versions c.args.«module».0 _ seen found ∙ sym c.has_old.ensures ∙ c.if-not-has_old.false in
    omega (arith, live_same c.args.self.now.versions _ c.args.«module».0 c.args.serial made some, ap (λ r. live_count r.versions) c.self.view_is)
