-- The index stays where a module of the list has this name and version, and else has the new place too.
use Rattle.std.proofs.Common.{rules, ◌≡◌, [], ◌∷◌, ◌++◌, Some, cond, length, position, ap, sym, ◌∙◌}
use Rattle.std.specs.Map.{lookup}
use Rattle.mod_core.specs.ModulePlaces.{is_of_key, is_same_key}
use Rattle.mod_core.proofs.ListPlaces.{key_of, places_kept, places_with}
use Rattle.mod_core.proofs.module_list.ModuleList.push.Goals.{then-not-contains_key+in_ok-insert, else-not-contains_key}
use Rattle.mod_core.proofs.module_list.ModuleList.push.Goals as goal

pub invariant_of-self-2 : goal.invariant_of-self-2
invariant_of-self-2 c =
    let es = c.self.inside.places.entries in
    let ms = c.self.inside.modules.items in
    let m = c.args.«module» in
    elim c.if-not-contains_key.branch [
      | then-not-contains_key+in_ok-insert w ↦
          let items : c.push_reserved.new.self.items ≡ ms ++ m ∷ [] = c.push_reserved.ensures.items ∙ ap (λ s. s.modules.items ++ m ∷ []) w.self-inside-is ∙ ap (λ xs. xs ++ m ∷ []) c.reserve.ensures.items in
          let len : w.len.result ≡ length ms = search rules in
          λ key. ap (λ s. lookup (is_same_key key) s.places.entries) w.self-inside-is
          ∙ places_with es w.insert.new.self.entries ms m c.self.invariant (sym w.if-not-contains_key.ensures) (λ k. w.in_ok-insert.ensures.updates.0 k ∙ ap (λ n. cond (is_same_key (key_of m) k) (Some n) (lookup (is_same_key k) es)) len) key
          ∙ sym (ap (position (is_of_key key)) items)
      | else-not-contains_key w ↦
          let items : c.push_reserved.new.self.items ≡ ms ++ m ∷ [] = c.push_reserved.ensures.items ∙ ap (λ s. s.modules.items ++ m ∷ []) w.self-inside-is ∙ ap (λ xs. xs ++ m ∷ []) c.reserve.ensures.items in
          λ key. ap (λ s. lookup (is_same_key key) s.places.entries) w.self-inside-is ∙ places_kept es ms m c.self.invariant (sym w.if-not-contains_key.ensures) key ∙ sym (ap (position (is_of_key key)) items)
    ]
