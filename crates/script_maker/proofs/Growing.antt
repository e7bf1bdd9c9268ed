-- Lists of versions and of commands grow by one at their end.
use Rattle.std.proofs.Common.{◌≡◌, ℕ, ◌+◌, List, [], ◌∷◌, ◌++◌, map, sym, ap, ◌∙◌, arith, append_assoc, add-one}
use Rattle.std.proofs.lemmas.List.FromFn.{map-range_with_len_more}
use Rattle.std.specs.List.{range_with_len}
use Rattle.mod_core.specs.declared.code.Module.{Module}
use Rattle.script_core.specs.declared.script.ScriptCmd.{ScriptCmd}
use Rattle.script_maker.specs.declared.subject.Subject.{Subject}
use Rattle.script_maker.specs.Generator.{next_number, number_after}
use Rattle.script_maker.specs.MadeScript.{command_at, made_command, made_commands, made_module, subject_of}

-- one version more
pub versions_more : (about : Subject) (k : ℕ) (front before after : List Module) (made : Module) → before ≡ front ++ map (made_module about) (range_with_len 1 k) → after ≡ before ++ made ∷ [] → made ≡ made_module about (k + 1)
    → after ≡ front ++ map (made_module about) (range_with_len 1 (k + 1))
versions_more about k front before after made so_far pushed is =
    pushed ∙ ap (λ ms. ms ++ made ∷ []) so_far ∙ append_assoc front (map (made_module about) (range_with_len 1 k)) (made ∷ [])
    ∙ ap (λ m. front ++ (map (made_module about) (range_with_len 1 k) ++ m ∷ [])) is
    ∙ ap (λ ms. front ++ ms) (sym (map-range_with_len_more (made_module about) 1 k (k + 1) (omega arith)))

-- one step of the generator more
pub number_more : (seed loader place : ℕ) → number_after seed loader (place + 1) ≡ next_number (number_after seed loader place)
number_more seed loader place = ap (number_after seed loader) (add-one place)

-- one command more
pub commands_more : (seed loader place number : ℕ) (about : Subject) (before after : List ScriptCmd) (made : ScriptCmd) → about ≡ subject_of loader → before ≡ made_commands seed loader place → after ≡ before ++ made ∷ []
    → number ≡ number_after seed loader (place + 1) → made ≡ made_command about place number → after ≡ made_commands seed loader (place + 1)
commands_more seed loader place number about before after made about_is so_far pushed number_is is =
    pushed ∙ ap (λ cs. cs ++ made ∷ []) so_far
    ∙ ap (λ c. made_commands seed loader place ++ c ∷ []) (is ∙ ap (λ a. made_command a place number) about_is ∙ ap (made_command (subject_of loader) place) number_is)
    ∙ sym (map-range_with_len_more (command_at seed loader) 0 place place (omega arith))
