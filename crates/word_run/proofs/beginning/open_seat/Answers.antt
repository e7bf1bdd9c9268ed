use Rattle.std.proofs.Common.{◌≡◌, ◌∷◌, ◌++◌, [], Option, Some, Ok, refl, ap, subst, sym, ◌∙◌}
use Rattle.std.specs.Prelude.{Vec}
use Rattle.std.specs.declared.alloc.Global.{Global}
use Rattle.word_lap.specs.declared.process_run.ProcessRun.{ProcessRun}
use Rattle.word_lap.specs.Laws.{AreAllFree}
use Rattle.word_run.specs.declared.scheduler.Slice.TheVariants.{Again}
use Rattle.word_run.specs.Beginning.{none_posted}
use Rattle.word_run.proofs.beginning.open_seat.Goals as goal

-- the inbox is that of the number
pub named-inbox-requires : goal.named-inbox-requires
named-inbox-requires g c = subst (λ n. g.I.InboxNames.queue n ≡ Some c.args.opening) (sym (c.len-number.ensures ∙ c.args.stations.now.seats.ok.0)) c.requires.picked

-- the seat of the number
pub returns : goal.returns
returns g c =
    let number = c.len-number.ensures ∙ c.args.stations.now.seats.ok.0 in
    record {
      seat = record { scheduler = c.new-scheduler.result; answer = Ok Again };
      opened = record {
        number_is = c.new-scheduler.ensures.number ∙ number;
        member_is = c.new-scheduler.ensures.member;
        awake = c.new-scheduler.ensures.waits;
        taker_is = c.new-scheduler.ensures.taker ∙ c.named-inbox.ensures.taker ∙ ap (λ n. record { number = n; taken = []; told = [] }) number;
        free = subst (λ (v : Vec (Option ProcessRun) Global). AreAllFree v.items) (sym c.new-scheduler.ensures.processes) c.in_ok-processes.ensures;
        generation = c.new-scheduler.ensures.generation;
        answer = refl;
      };
      inbox_joins = c.in_ok-push.ensures.items ∙ ap (λ n. c.args.stations.now.inboxes.items ++ n ∷ []) (c.named-inbox.ensures.inbox ∙ number);
      end_joins = c.in_ok-push-2.ensures.items ∙ ap (λ p. c.args.stations.now.posters.items ++ p ∷ []) (c.named-inbox.ensures.poster ∙ ap none_posted number);
      seat_joins = c.in_ok-push-3.ensures.items;
    }
