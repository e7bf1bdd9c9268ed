use Rattle.script_text.proofs.Common.{ℕ, List, Result, Ok, sym, ap, ◌∙◌}
use Rattle.script_text.proofs.Texts.{term_of, PlainTerm, term_of-plain}
use Rattle.script_text.proofs.Types.{Put, LineCause}
use Rattle.script_text.proofs.Forms.{◌>>=◌, onto_last, PutWords, put_named, with_command}
use Rattle.script_text.proofs.reading.reader.ScriptReader.take_put.Goals as goal
use Rattle.script_text.specs.Reading.{put_step}

-- the put joins the last loader block
pub returns : goal.returns
unfolding put_step
returns c =
    let s = c.args.self.now in
    let loaders = ap (λ t. onto_last s.loaders (Put c.in_ok-key.key t)) (term_of-plain c.in_ok-key.term) ∙ sym c.in_ok-push_command.ensures in
    let done : ℕ × PlainTerm × List (List ℕ) → Result _ LineCause = λ x. Ok (with_command (record s { names = x.2 }) (Put (record { 0 = x.0 }) (term_of x.1))) in
    ap (λ (r : Result PutWords LineCause). r >>= λ form. put_named s.names form >>= done) c.in_ok-put.ensures.read
    ∙ ap (λ (r : Result (ℕ × PlainTerm × List (List ℕ)) LineCause). r >>= done) c.in_ok-key.ensures
    ∙ (λ i. Ok (record s { names = c.name_put.new.names; loaders = loaders i }))
