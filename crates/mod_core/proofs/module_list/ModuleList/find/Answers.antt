-- The index has the place of the first module that is looked for, or none.
use Rattle.std.proofs.Common.{◌≡◌, Some, find, position, slice_get, option_and_then, ap, sym, ◌∙◌, arith}
use Rattle.std.specs.Option.{option_copied}
use Rattle.std.proofs.lemmas.Grind.{common_steps}
use Rattle.std.proofs.lemmas.Option.{gets}
use Rattle.mod_core.specs.declared.module_list.ModuleKey.{ModuleKey}
use Rattle.mod_core.specs.ModulePlaces.{is_of_key}
use Rattle.mod_core.proofs.ListPlaces.{find_in}
use Rattle.mod_core.proofs.module_list.ModuleList.find.Goals as goal

pub returns-in_err-place : goal.returns-in_err-place
returns-in_err-place c =
    let key : ModuleKey = record { name = c.args.name.0; version = c.args.version } in
    let found = find_in (is_of_key key) c.self.inside.modules.items in
    let place = c.self.invariant key in
    grind (arith, common_steps)

pub returns : goal.returns
returns c =
    let key : ModuleKey = record { name = c.args.name.0; version = c.args.version } in
    let items = c.self.inside.modules.items in
    let place : position (is_of_key key) items ≡ Some c.in_ok-place.place.now = sym (c.self.invariant key) ∙ sym c.get.ensures.value ∙ ap option_copied c.in_ok-place.was in
    let found : find (is_of_key key) items ≡ slice_get items c.in_ok-place.place.now = find_in (is_of_key key) items ∙ ap (option_and_then (slice_get items)) place in
    let there : option_copied c.get-2.result ≡ slice_get c.deref.result.now c.in_ok-place.place.now = grind (arith, common_steps, gets) in
    there ∙ ap (λ l. slice_get l c.in_ok-place.place.now) c.deref.ensures.value ∙ sym found ∙ ap (find (is_of_key key)) c.self.view_is
