-- Calls on a permit, one after the other.
use Rattle.std.proofs.Common.{◌≡◌, List, [], ◌++◌, sym, ap, refl, subst, ◌∙◌, arith}
use Rattle.std.proofs.lemmas.List.{append-nil, append_assoc}
use Rattle.run_log.specs.declared.logs.Entry.{Entry}
use Rattle.write_permit.specs.declared.book.Book.{Book}
use Rattle.write_permit.specs.declared.holder.Holder.{Holder}
use Rattle.write_permit.specs.Book.{shown}
use Rattle.write_permit.specs.Permit.{PermitState}
use Rattle.word_permit.specs.Purged.{HasGrown}
use Rattle.word_run.specs.Desks.{GoesOn}

goes_holder : (p : PermitState) (h : Holder) → GoesOn p (record p { holder = h })
goes_holder p h = record { script = refl; more = []; journal = sym (append-nil p.journal); done = λ loader. omega arith }

-- nothing was made
pub goes_same : (p q : PermitState) → q ≡ p → GoesOn p q
goes_same p q is = subst (GoesOn p) (sym is) (goes_holder p p.holder)

-- the permission was asked for
pub goes_seized : (p q : PermitState) (h : Holder) → q ≡ record p { holder = h } → GoesOn p q
goes_seized p q h is = subst (GoesOn p) (sym is) (goes_holder p h)

-- the loader that has it went on
pub goes_grown : (b c : Book) → HasGrown b c → GoesOn (shown b) (shown c)
goes_grown b c grown = record { script = grown.script; more = grown.more; journal = grown.journal; done = grown.done }

pub goes_through : (p q r : PermitState) → GoesOn p q → GoesOn q r → GoesOn p r
goes_through p q r first second = record {
  script = second.script ∙ first.script;
  more = first.more ++ second.more;
  journal = second.journal ∙ ap (λ (xs : List Entry). xs ++ second.more) first.journal ∙ append_assoc p.journal first.more second.more;
  done = λ loader. omega (arith, first.done loader, second.done loader);
}
