-- The function can be patched, and its patch begins.
use Rattle.std.proofs.Common.{refl, sym, subst}
use Rattle.progress_words.specs.Tokens.{written_by}
use Rattle.breakpoints.specs.Patches.{IsUnpublished}
use Rattle.staging.proofs.Patched.{rest_of}
use Rattle.staging.proofs.Traced.{begun_stands, function_of, patchable, trace_lives}
use Rattle.staging.proofs.tracing.begin_patch.Goals as goal

pub patch_of-requires-clause-sound : goal.patch_of-requires-clause-sound
patch_of-requires-clause-sound g c = c.requires.tables.pools.sound

pub patch_of-requires-clause-live : goal.patch_of-requires-clause-live
patch_of-requires-clause-live g c = trace_lives g.K.Naming.names c.args.server.now c.args.change.now c.args.tables.now.pools (written_by c.args.tables.now.writer) c.requires.rest.stands c.requires.trace c.requires.code

pub returns-clause-tables : goal.returns-clause-tables
returns-clause-tables g c =
    let w = written_by c.args.tables.now.writer in
    let x = c.patch_of.result in
    record {
      token = c.requires.tables.token;
      index = c.requires.tables.index;
      terms = c.requires.tables.terms;
      pools = c.requires.tables.pools;
      patch = begun_stands w x c.patch_of.ensures.begun (rest_of c.args.tables.now.patch w c.requires.rest.staged.patch c.requires.tables.patch)
          (patchable g.K.Naming.names c.args.server.now c.args.tables.now.pools w c.requires.rest.stands x.at (function_of c.args.server.now c.args.change.now x c.patch_of.ensures.of c.requires.code) c.patch_of.ensures.live);
    }

pub returns-clause-patched : goal.returns-clause-patched
returns-clause-patched g c = record {
  stands = c.requires.rest.stands;
  index = c.requires.rest.staged.index;
  terms = c.requires.rest.staged.terms;
  patch = c.patch_of.result;
  is = refl;
  of = c.patch_of.ensures.of;
  before = subst IsUnpublished (sym c.patch_of.ensures.begun) tt;
}
