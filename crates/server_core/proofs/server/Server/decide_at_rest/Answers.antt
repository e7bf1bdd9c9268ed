-- The modules that come in are the texts of the list, and as many; none of them has old code, and no two have one name.
use Rattle.std.proofs.Common.{[], ap, filter, is_some, sym, ◌∙◌, arith}
use Rattle.server_core.specs.CommandTable.{repeated_after}
use Rattle.server_core.specs.ServerState.{live_count, old_of}
use Rattle.server_core.proofs.GivenTexts.{all_once, all_purged, texts_listed, texts_named}
use Rattle.server_core.proofs.server.Server.decide_at_rest.Goals as goal

pub decide_bring_in-requires : goal.decide_bring_in-requires
decide_bring_in-requires c =
    let listed = texts_listed c.args.texts.now c.args.refs.now c.in_ok-modules.modules.items c.requires.texts c.in_ok-modules.ensures in
    let named = texts_named c.args.texts.now c.args.refs.now c.in_ok-modules.modules.items c.in_ok-modules.ensures in
    let same = ap (λ s. live_count s.versions) c.self.view_is in
    record {
      sound = listed.0;
      purged = all_purged c.args.self.now c.in_ok-modules.modules.items (ap (filter (λ name. is_some (old_of c.args.self.now name.0))) named ∙ sym c.in_ok-kept.ensures ∙ c.is_empty.ensures.0 c.if-not-is_empty.false);
      once = (all_once [] c.in_ok-modules.modules.items (ap (repeated_after []) named ∙ sym c.in_ok-name.ensures ∙ c.in_default.is)).1;
      rest = c.requires.rest;
      places = omega (arith, same, listed.1, c.live.ensures);
    }
