use Rattle.word_run.proofs.rounds.was_last.Goals as goal

pub returns-clause-over : goal.returns-clause-over
returns-clause-over g c = λ last.
    let h = c.is_last.ensures last in
    (h.1, c.in_ok-idle.ensures.idle h.0)
