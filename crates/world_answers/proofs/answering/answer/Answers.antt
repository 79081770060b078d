use Rattle.std.proofs.Common.{sym}
use Rattle.std.specs.Option.{option_copied}
use Rattle.hart_moves.specs.Due.{due}
use Rattle.hart_seat.specs.HartParts.Views.{back_of, call_in}
use Rattle.hart_seat.specs.declared.hart_parts.due.Call.TheVariants as call
use Rattle.history_state.specs.After.{after}
use Rattle.world_answers.specs.Openings.{dlmopen_ask, dlopen_ask}
use Rattle.world_answers.proofs.Own.{own_end}
use Rattle.world_answers.proofs.Turned.{due_of, needs_none, other_shows, other_wholly, serves_call, turned, turned_over, wholly}
use Rattle.world_answers.proofs.answering.answer.Goals as goal

pub returns-in-Some-Resolve-clause-answered : goal.returns-in-Some-Resolve-clause-answered
returns-in-Some-Resolve-clause-answered g c =
    turned c.args.state.now c.resolve.new.state c.args.folders.now (g.L.Library.files c.args.library.now) c.args.id (due (after c.args.state.now.events) c.args.hart.now.hart) (call_in (after c.args.state.now.events) (call.Resolve c.in-Some-Resolve.owner c.in-Some-Resolve.eights)) (back_of c.args.hart.now.hart (call.Resolve c.in-Some-Resolve.owner c.in-Some-Resolve.eights)) c.resolve.result
    (due_of (after c.args.state.now.events) c.args.hart.now.hart c.in-Some-Resolve.field-0 (call.Resolve c.in-Some-Resolve.owner c.in-Some-Resolve.eights) c.in-Some-Resolve.field-0-is c.in-Some-Resolve.ensures.asked) c.resolve.ensures.answered

pub returns-in-Some-Resolve-clause-whole : goal.returns-in-Some-Resolve-clause-whole
returns-in-Some-Resolve-clause-whole g c =
    other_wholly c.args.state.now c.args.folders.now (g.L.Library.files c.args.library.now) (g.L.Library.faults c.args.library.now) (g.L.Library.faults c.args.library.now) c.args.id (due (after c.args.state.now.events) c.args.hart.now.hart) (call_in (after c.args.state.now.events) (call.Resolve c.in-Some-Resolve.owner c.in-Some-Resolve.eights)) (back_of c.args.hart.now.hart (call.Resolve c.in-Some-Resolve.owner c.in-Some-Resolve.eights)) c.resolve.result tt
    (due_of (after c.args.state.now.events) c.args.hart.now.hart c.in-Some-Resolve.field-0 (call.Resolve c.in-Some-Resolve.owner c.in-Some-Resolve.eights) c.in-Some-Resolve.field-0-is c.in-Some-Resolve.ensures.asked)

pub returns-in-Some-Resolve-clause-counts : goal.returns-in-Some-Resolve-clause-counts
returns-in-Some-Resolve-clause-counts g c =
    other_shows c.args.folders.now c.args.state.now.events c.resolve.new.state.events c.args.id (due (after c.args.state.now.events) c.args.hart.now.hart) (call_in (after c.args.state.now.events) (call.Resolve c.in-Some-Resolve.owner c.in-Some-Resolve.eights)) (back_of c.args.hart.now.hart (call.Resolve c.in-Some-Resolve.owner c.in-Some-Resolve.eights)) (g.L.Library.faults c.args.library.now) (g.L.Library.faults c.args.library.now) (g.L.Library.misses c.args.library.now) (g.L.Library.misses c.args.library.now) tt
    (due_of (after c.args.state.now.events) c.args.hart.now.hart c.in-Some-Resolve.field-0 (call.Resolve c.in-Some-Resolve.owner c.in-Some-Resolve.eights) c.in-Some-Resolve.field-0-is c.in-Some-Resolve.ensures.asked)

pub resolve-requires-clause-free : goal.resolve-requires-clause-free
resolve-requires-clause-free g c = c.requires.free c.in-Some-Resolve.owner c.in-Some-Resolve.eights (back_of c.args.hart.now.hart (call.Resolve c.in-Some-Resolve.owner c.in-Some-Resolve.eights))
    (sym (due_of (after c.args.state.now.events) c.args.hart.now.hart c.in-Some-Resolve.field-0 (call.Resolve c.in-Some-Resolve.owner c.in-Some-Resolve.eights) c.in-Some-Resolve.field-0-is c.in-Some-Resolve.ensures.asked))

pub resolve-requires-clause-may_end : goal.resolve-requires-clause-may_end
resolve-requires-clause-may_end g c = c.requires.may_end (serves_call (due (after c.args.state.now.events) c.args.hart.now.hart) (call_in (after c.args.state.now.events) (call.Resolve c.in-Some-Resolve.owner c.in-Some-Resolve.eights)) (back_of c.args.hart.now.hart (call.Resolve c.in-Some-Resolve.owner c.in-Some-Resolve.eights))
    (due_of (after c.args.state.now.events) c.args.hart.now.hart c.in-Some-Resolve.field-0 (call.Resolve c.in-Some-Resolve.owner c.in-Some-Resolve.eights) c.in-Some-Resolve.field-0-is c.in-Some-Resolve.ensures.asked))

pub returns-in-Some-Dlopen-clause-answered : goal.returns-in-Some-Dlopen-clause-answered
returns-in-Some-Dlopen-clause-answered g c =
    turned_over c.args.state.now c.dlopen.new.state c.args.folders.now (g.L.Library.files c.args.library.now) c.args.id (due (after c.args.state.now.events) c.args.hart.now.hart) (call_in (after c.args.state.now.events) (call.Dlopen c.in-Some-Dlopen.caller c.in-Some-Dlopen.name c.in-Some-Dlopen.flags)) (back_of c.args.hart.now.hart (call.Dlopen c.in-Some-Dlopen.caller c.in-Some-Dlopen.name c.in-Some-Dlopen.flags)) c.dlopen.result
    (due_of (after c.args.state.now.events) c.args.hart.now.hart c.in-Some-Dlopen.field-0 (call.Dlopen c.in-Some-Dlopen.caller c.in-Some-Dlopen.name c.in-Some-Dlopen.flags) c.in-Some-Dlopen.field-0-is c.in-Some-Dlopen.ensures.asked) c.dlopen.ensures.answered

pub returns-in-Some-Dlopen-clause-whole : goal.returns-in-Some-Dlopen-clause-whole
returns-in-Some-Dlopen-clause-whole g c =
    wholly c.args.state.now c.args.folders.now (g.L.Library.files c.args.library.now) (g.L.Library.faults c.args.library.now) (g.L.Library.faults c.dlopen.new.library) c.args.id (due (after c.args.state.now.events) c.args.hart.now.hart) (dlopen_ask (after c.args.state.now.events) c.in-Some-Dlopen.caller (option_copied c.in-Some-Dlopen.name) c.in-Some-Dlopen.flags) (back_of c.args.hart.now.hart (call.Dlopen c.in-Some-Dlopen.caller c.in-Some-Dlopen.name c.in-Some-Dlopen.flags)) c.dlopen.result
    (due_of (after c.args.state.now.events) c.args.hart.now.hart c.in-Some-Dlopen.field-0 (call.Dlopen c.in-Some-Dlopen.caller c.in-Some-Dlopen.name c.in-Some-Dlopen.flags) c.in-Some-Dlopen.field-0-is c.in-Some-Dlopen.ensures.asked) c.dlopen.ensures.whole

pub returns-in-Some-Dlopen-clause-counts : goal.returns-in-Some-Dlopen-clause-counts
returns-in-Some-Dlopen-clause-counts g c = λ ask return due. c.dlopen.ensures.counts

pub dlopen-requires-clause-may_end : goal.dlopen-requires-clause-may_end
dlopen-requires-clause-may_end g c = c.requires.may_end (serves_call (due (after c.args.state.now.events) c.args.hart.now.hart) (call_in (after c.args.state.now.events) (call.Dlopen c.in-Some-Dlopen.caller c.in-Some-Dlopen.name c.in-Some-Dlopen.flags)) (back_of c.args.hart.now.hart (call.Dlopen c.in-Some-Dlopen.caller c.in-Some-Dlopen.name c.in-Some-Dlopen.flags))
    (due_of (after c.args.state.now.events) c.args.hart.now.hart c.in-Some-Dlopen.field-0 (call.Dlopen c.in-Some-Dlopen.caller c.in-Some-Dlopen.name c.in-Some-Dlopen.flags) c.in-Some-Dlopen.field-0-is c.in-Some-Dlopen.ensures.asked))

pub returns-in-Some-Dlopen-clause-unread : goal.returns-in-Some-Dlopen-clause-unread
returns-in-Some-Dlopen-clause-unread g c = λ reads. c.dlopen.ensures.unread (needs_none (after c.args.state.now.events) (due (after c.args.state.now.events) c.args.hart.now.hart) (dlopen_ask (after c.args.state.now.events) c.in-Some-Dlopen.caller (option_copied c.in-Some-Dlopen.name) c.in-Some-Dlopen.flags) (back_of c.args.hart.now.hart (call.Dlopen c.in-Some-Dlopen.caller c.in-Some-Dlopen.name c.in-Some-Dlopen.flags)) (due_of (after c.args.state.now.events) c.args.hart.now.hart c.in-Some-Dlopen.field-0 (call.Dlopen c.in-Some-Dlopen.caller c.in-Some-Dlopen.name c.in-Some-Dlopen.flags) c.in-Some-Dlopen.field-0-is c.in-Some-Dlopen.ensures.asked) reads)

pub returns-in-Some-Dlmopen-clause-answered : goal.returns-in-Some-Dlmopen-clause-answered
returns-in-Some-Dlmopen-clause-answered g c =
    turned_over c.args.state.now c.dlmopen.new.state c.args.folders.now (g.L.Library.files c.args.library.now) c.args.id (due (after c.args.state.now.events) c.args.hart.now.hart) (call_in (after c.args.state.now.events) (call.Dlmopen c.in-Some-Dlmopen.namespace c.in-Some-Dlmopen.name c.in-Some-Dlmopen.flags)) (back_of c.args.hart.now.hart (call.Dlmopen c.in-Some-Dlmopen.namespace c.in-Some-Dlmopen.name c.in-Some-Dlmopen.flags)) c.dlmopen.result
    (due_of (after c.args.state.now.events) c.args.hart.now.hart c.in-Some-Dlmopen.field-0 (call.Dlmopen c.in-Some-Dlmopen.namespace c.in-Some-Dlmopen.name c.in-Some-Dlmopen.flags) c.in-Some-Dlmopen.field-0-is c.in-Some-Dlmopen.ensures.asked) c.dlmopen.ensures.answered

pub returns-in-Some-Dlmopen-clause-whole : goal.returns-in-Some-Dlmopen-clause-whole
returns-in-Some-Dlmopen-clause-whole g c =
    wholly c.args.state.now c.args.folders.now (g.L.Library.files c.args.library.now) (g.L.Library.faults c.args.library.now) (g.L.Library.faults c.dlmopen.new.library) c.args.id (due (after c.args.state.now.events) c.args.hart.now.hart) (dlmopen_ask c.in-Some-Dlmopen.namespace (option_copied c.in-Some-Dlmopen.name) c.in-Some-Dlmopen.flags) (back_of c.args.hart.now.hart (call.Dlmopen c.in-Some-Dlmopen.namespace c.in-Some-Dlmopen.name c.in-Some-Dlmopen.flags)) c.dlmopen.result
    (due_of (after c.args.state.now.events) c.args.hart.now.hart c.in-Some-Dlmopen.field-0 (call.Dlmopen c.in-Some-Dlmopen.namespace c.in-Some-Dlmopen.name c.in-Some-Dlmopen.flags) c.in-Some-Dlmopen.field-0-is c.in-Some-Dlmopen.ensures.asked) c.dlmopen.ensures.whole

pub returns-in-Some-Dlmopen-clause-counts : goal.returns-in-Some-Dlmopen-clause-counts
returns-in-Some-Dlmopen-clause-counts g c = λ ask return due. c.dlmopen.ensures.counts

pub dlmopen-requires-clause-may_end : goal.dlmopen-requires-clause-may_end
dlmopen-requires-clause-may_end g c = c.requires.may_end (serves_call (due (after c.args.state.now.events) c.args.hart.now.hart) (call_in (after c.args.state.now.events) (call.Dlmopen c.in-Some-Dlmopen.namespace c.in-Some-Dlmopen.name c.in-Some-Dlmopen.flags)) (back_of c.args.hart.now.hart (call.Dlmopen c.in-Some-Dlmopen.namespace c.in-Some-Dlmopen.name c.in-Some-Dlmopen.flags))
    (due_of (after c.args.state.now.events) c.args.hart.now.hart c.in-Some-Dlmopen.field-0 (call.Dlmopen c.in-Some-Dlmopen.namespace c.in-Some-Dlmopen.name c.in-Some-Dlmopen.flags) c.in-Some-Dlmopen.field-0-is c.in-Some-Dlmopen.ensures.asked))

pub returns-in-Some-Dlmopen-clause-unread : goal.returns-in-Some-Dlmopen-clause-unread
returns-in-Some-Dlmopen-clause-unread g c = λ reads. c.dlmopen.ensures.unread (needs_none (after c.args.state.now.events) (due (after c.args.state.now.events) c.args.hart.now.hart) (dlmopen_ask c.in-Some-Dlmopen.namespace (option_copied c.in-Some-Dlmopen.name) c.in-Some-Dlmopen.flags) (back_of c.args.hart.now.hart (call.Dlmopen c.in-Some-Dlmopen.namespace c.in-Some-Dlmopen.name c.in-Some-Dlmopen.flags)) (due_of (after c.args.state.now.events) c.args.hart.now.hart c.in-Some-Dlmopen.field-0 (call.Dlmopen c.in-Some-Dlmopen.namespace c.in-Some-Dlmopen.name c.in-Some-Dlmopen.flags) c.in-Some-Dlmopen.field-0-is c.in-Some-Dlmopen.ensures.asked) reads)

pub returns-in-Some-Dlsym-clause-answered : goal.returns-in-Some-Dlsym-clause-answered
returns-in-Some-Dlsym-clause-answered g c =
    turned c.args.state.now c.dlsym.new.state c.args.folders.now (g.L.Library.files c.args.library.now) c.args.id (due (after c.args.state.now.events) c.args.hart.now.hart) (call_in (after c.args.state.now.events) (call.Dlsym c.in-Some-Dlsym.caller c.in-Some-Dlsym.handle c.in-Some-Dlsym.name)) (back_of c.args.hart.now.hart (call.Dlsym c.in-Some-Dlsym.caller c.in-Some-Dlsym.handle c.in-Some-Dlsym.name)) c.dlsym.result
    (due_of (after c.args.state.now.events) c.args.hart.now.hart c.in-Some-Dlsym.field-0 (call.Dlsym c.in-Some-Dlsym.caller c.in-Some-Dlsym.handle c.in-Some-Dlsym.name) c.in-Some-Dlsym.field-0-is c.in-Some-Dlsym.ensures.asked) c.dlsym.ensures.answered

pub returns-in-Some-Dlsym-clause-whole : goal.returns-in-Some-Dlsym-clause-whole
returns-in-Some-Dlsym-clause-whole g c =
    other_wholly c.args.state.now c.args.folders.now (g.L.Library.files c.args.library.now) (g.L.Library.faults c.args.library.now) (g.L.Library.faults c.args.library.now) c.args.id (due (after c.args.state.now.events) c.args.hart.now.hart) (call_in (after c.args.state.now.events) (call.Dlsym c.in-Some-Dlsym.caller c.in-Some-Dlsym.handle c.in-Some-Dlsym.name)) (back_of c.args.hart.now.hart (call.Dlsym c.in-Some-Dlsym.caller c.in-Some-Dlsym.handle c.in-Some-Dlsym.name)) c.dlsym.result tt
    (due_of (after c.args.state.now.events) c.args.hart.now.hart c.in-Some-Dlsym.field-0 (call.Dlsym c.in-Some-Dlsym.caller c.in-Some-Dlsym.handle c.in-Some-Dlsym.name) c.in-Some-Dlsym.field-0-is c.in-Some-Dlsym.ensures.asked)

pub returns-in-Some-Dlsym-clause-counts : goal.returns-in-Some-Dlsym-clause-counts
returns-in-Some-Dlsym-clause-counts g c =
    other_shows c.args.folders.now c.args.state.now.events c.dlsym.new.state.events c.args.id (due (after c.args.state.now.events) c.args.hart.now.hart) (call_in (after c.args.state.now.events) (call.Dlsym c.in-Some-Dlsym.caller c.in-Some-Dlsym.handle c.in-Some-Dlsym.name)) (back_of c.args.hart.now.hart (call.Dlsym c.in-Some-Dlsym.caller c.in-Some-Dlsym.handle c.in-Some-Dlsym.name)) (g.L.Library.faults c.args.library.now) (g.L.Library.faults c.args.library.now) (g.L.Library.misses c.args.library.now) (g.L.Library.misses c.args.library.now) tt
    (due_of (after c.args.state.now.events) c.args.hart.now.hart c.in-Some-Dlsym.field-0 (call.Dlsym c.in-Some-Dlsym.caller c.in-Some-Dlsym.handle c.in-Some-Dlsym.name) c.in-Some-Dlsym.field-0-is c.in-Some-Dlsym.ensures.asked)

pub dlsym-requires-clause-may_end : goal.dlsym-requires-clause-may_end
dlsym-requires-clause-may_end g c = c.requires.may_end (serves_call (due (after c.args.state.now.events) c.args.hart.now.hart) (call_in (after c.args.state.now.events) (call.Dlsym c.in-Some-Dlsym.caller c.in-Some-Dlsym.handle c.in-Some-Dlsym.name)) (back_of c.args.hart.now.hart (call.Dlsym c.in-Some-Dlsym.caller c.in-Some-Dlsym.handle c.in-Some-Dlsym.name))
    (due_of (after c.args.state.now.events) c.args.hart.now.hart c.in-Some-Dlsym.field-0 (call.Dlsym c.in-Some-Dlsym.caller c.in-Some-Dlsym.handle c.in-Some-Dlsym.name) c.in-Some-Dlsym.field-0-is c.in-Some-Dlsym.ensures.asked))

pub returns-in-Some-Dlvsym-clause-answered : goal.returns-in-Some-Dlvsym-clause-answered
returns-in-Some-Dlvsym-clause-answered g c =
    turned c.args.state.now c.dlvsym.new.state c.args.folders.now (g.L.Library.files c.args.library.now) c.args.id (due (after c.args.state.now.events) c.args.hart.now.hart) (call_in (after c.args.state.now.events) (call.Dlvsym c.in-Some-Dlvsym.caller c.in-Some-Dlvsym.handle c.in-Some-Dlvsym.name c.in-Some-Dlvsym.version)) (back_of c.args.hart.now.hart (call.Dlvsym c.in-Some-Dlvsym.caller c.in-Some-Dlvsym.handle c.in-Some-Dlvsym.name c.in-Some-Dlvsym.version)) c.dlvsym.result
    (due_of (after c.args.state.now.events) c.args.hart.now.hart c.in-Some-Dlvsym.field-0 (call.Dlvsym c.in-Some-Dlvsym.caller c.in-Some-Dlvsym.handle c.in-Some-Dlvsym.name c.in-Some-Dlvsym.version) c.in-Some-Dlvsym.field-0-is c.in-Some-Dlvsym.ensures.asked) c.dlvsym.ensures.answered

pub returns-in-Some-Dlvsym-clause-whole : goal.returns-in-Some-Dlvsym-clause-whole
returns-in-Some-Dlvsym-clause-whole g c =
    other_wholly c.args.state.now c.args.folders.now (g.L.Library.files c.args.library.now) (g.L.Library.faults c.args.library.now) (g.L.Library.faults c.args.library.now) c.args.id (due (after c.args.state.now.events) c.args.hart.now.hart) (call_in (after c.args.state.now.events) (call.Dlvsym c.in-Some-Dlvsym.caller c.in-Some-Dlvsym.handle c.in-Some-Dlvsym.name c.in-Some-Dlvsym.version)) (back_of c.args.hart.now.hart (call.Dlvsym c.in-Some-Dlvsym.caller c.in-Some-Dlvsym.handle c.in-Some-Dlvsym.name c.in-Some-Dlvsym.version)) c.dlvsym.result tt
    (due_of (after c.args.state.now.events) c.args.hart.now.hart c.in-Some-Dlvsym.field-0 (call.Dlvsym c.in-Some-Dlvsym.caller c.in-Some-Dlvsym.handle c.in-Some-Dlvsym.name c.in-Some-Dlvsym.version) c.in-Some-Dlvsym.field-0-is c.in-Some-Dlvsym.ensures.asked)

pub returns-in-Some-Dlvsym-clause-counts : goal.returns-in-Some-Dlvsym-clause-counts
returns-in-Some-Dlvsym-clause-counts g c =
    other_shows c.args.folders.now c.args.state.now.events c.dlvsym.new.state.events c.args.id (due (after c.args.state.now.events) c.args.hart.now.hart) (call_in (after c.args.state.now.events) (call.Dlvsym c.in-Some-Dlvsym.caller c.in-Some-Dlvsym.handle c.in-Some-Dlvsym.name c.in-Some-Dlvsym.version)) (back_of c.args.hart.now.hart (call.Dlvsym c.in-Some-Dlvsym.caller c.in-Some-Dlvsym.handle c.in-Some-Dlvsym.name c.in-Some-Dlvsym.version)) (g.L.Library.faults c.args.library.now) (g.L.Library.faults c.args.library.now) (g.L.Library.misses c.args.library.now) (g.L.Library.misses c.args.library.now) tt
    (due_of (after c.args.state.now.events) c.args.hart.now.hart c.in-Some-Dlvsym.field-0 (call.Dlvsym c.in-Some-Dlvsym.caller c.in-Some-Dlvsym.handle c.in-Some-Dlvsym.name c.in-Some-Dlvsym.version) c.in-Some-Dlvsym.field-0-is c.in-Some-Dlvsym.ensures.asked)

pub dlvsym-requires-clause-may_end : goal.dlvsym-requires-clause-may_end
dlvsym-requires-clause-may_end g c = c.requires.may_end (serves_call (due (after c.args.state.now.events) c.args.hart.now.hart) (call_in (after c.args.state.now.events) (call.Dlvsym c.in-Some-Dlvsym.caller c.in-Some-Dlvsym.handle c.in-Some-Dlvsym.name c.in-Some-Dlvsym.version)) (back_of c.args.hart.now.hart (call.Dlvsym c.in-Some-Dlvsym.caller c.in-Some-Dlvsym.handle c.in-Some-Dlvsym.name c.in-Some-Dlvsym.version))
    (due_of (after c.args.state.now.events) c.args.hart.now.hart c.in-Some-Dlvsym.field-0 (call.Dlvsym c.in-Some-Dlvsym.caller c.in-Some-Dlvsym.handle c.in-Some-Dlvsym.name c.in-Some-Dlvsym.version) c.in-Some-Dlvsym.field-0-is c.in-Some-Dlvsym.ensures.asked))

pub returns-in-Some-Dlclose-clause-answered : goal.returns-in-Some-Dlclose-clause-answered
returns-in-Some-Dlclose-clause-answered g c =
    turned c.args.state.now c.close.new.state c.args.folders.now (g.L.Library.files c.args.library.now) c.args.id (due (after c.args.state.now.events) c.args.hart.now.hart) (call_in (after c.args.state.now.events) (call.Dlclose c.in-Some-Dlclose.handle)) (back_of c.args.hart.now.hart (call.Dlclose c.in-Some-Dlclose.handle)) c.close.result
    (due_of (after c.args.state.now.events) c.args.hart.now.hart c.in-Some-Dlclose.field-0 (call.Dlclose c.in-Some-Dlclose.handle) c.in-Some-Dlclose.field-0-is c.in-Some-Dlclose.ensures.asked) c.close.ensures.answered

pub returns-in-Some-Dlclose-clause-whole : goal.returns-in-Some-Dlclose-clause-whole
returns-in-Some-Dlclose-clause-whole g c =
    other_wholly c.args.state.now c.args.folders.now (g.L.Library.files c.args.library.now) (g.L.Library.faults c.args.library.now) (g.L.Library.faults c.args.library.now) c.args.id (due (after c.args.state.now.events) c.args.hart.now.hart) (call_in (after c.args.state.now.events) (call.Dlclose c.in-Some-Dlclose.handle)) (back_of c.args.hart.now.hart (call.Dlclose c.in-Some-Dlclose.handle)) c.close.result tt
    (due_of (after c.args.state.now.events) c.args.hart.now.hart c.in-Some-Dlclose.field-0 (call.Dlclose c.in-Some-Dlclose.handle) c.in-Some-Dlclose.field-0-is c.in-Some-Dlclose.ensures.asked)

pub returns-in-Some-Dlclose-clause-counts : goal.returns-in-Some-Dlclose-clause-counts
returns-in-Some-Dlclose-clause-counts g c =
    other_shows c.args.folders.now c.args.state.now.events c.close.new.state.events c.args.id (due (after c.args.state.now.events) c.args.hart.now.hart) (call_in (after c.args.state.now.events) (call.Dlclose c.in-Some-Dlclose.handle)) (back_of c.args.hart.now.hart (call.Dlclose c.in-Some-Dlclose.handle)) (g.L.Library.faults c.args.library.now) (g.L.Library.faults c.args.library.now) (g.L.Library.misses c.args.library.now) (g.L.Library.misses c.args.library.now) tt
    (due_of (after c.args.state.now.events) c.args.hart.now.hart c.in-Some-Dlclose.field-0 (call.Dlclose c.in-Some-Dlclose.handle) c.in-Some-Dlclose.field-0-is c.in-Some-Dlclose.ensures.asked)

pub close-requires-clause-may_end : goal.close-requires-clause-may_end
close-requires-clause-may_end g c = c.requires.may_end (serves_call (due (after c.args.state.now.events) c.args.hart.now.hart) (call_in (after c.args.state.now.events) (call.Dlclose c.in-Some-Dlclose.handle)) (back_of c.args.hart.now.hart (call.Dlclose c.in-Some-Dlclose.handle))
    (due_of (after c.args.state.now.events) c.args.hart.now.hart c.in-Some-Dlclose.field-0 (call.Dlclose c.in-Some-Dlclose.handle) c.in-Some-Dlclose.field-0-is c.in-Some-Dlclose.ensures.asked))

pub returns-in-Some-Unmap-clause-answered : goal.returns-in-Some-Unmap-clause-answered
returns-in-Some-Unmap-clause-answered g c =
    turned c.args.state.now c.unmap.new.state c.args.folders.now (g.L.Library.files c.args.library.now) c.args.id (due (after c.args.state.now.events) c.args.hart.now.hart) (call_in (after c.args.state.now.events) (call.Unmap c.in-Some-Unmap.dying)) (back_of c.args.hart.now.hart (call.Unmap c.in-Some-Unmap.dying)) c.unmap.result
    (due_of (after c.args.state.now.events) c.args.hart.now.hart c.in-Some-Unmap.field-0 (call.Unmap c.in-Some-Unmap.dying) c.in-Some-Unmap.field-0-is c.in-Some-Unmap.ensures.asked) c.unmap.ensures.answered

pub returns-in-Some-Unmap-clause-whole : goal.returns-in-Some-Unmap-clause-whole
returns-in-Some-Unmap-clause-whole g c =
    other_wholly c.args.state.now c.args.folders.now (g.L.Library.files c.args.library.now) (g.L.Library.faults c.args.library.now) (g.L.Library.faults c.args.library.now) c.args.id (due (after c.args.state.now.events) c.args.hart.now.hart) (call_in (after c.args.state.now.events) (call.Unmap c.in-Some-Unmap.dying)) (back_of c.args.hart.now.hart (call.Unmap c.in-Some-Unmap.dying)) c.unmap.result tt
    (due_of (after c.args.state.now.events) c.args.hart.now.hart c.in-Some-Unmap.field-0 (call.Unmap c.in-Some-Unmap.dying) c.in-Some-Unmap.field-0-is c.in-Some-Unmap.ensures.asked)

pub returns-in-Some-Unmap-clause-counts : goal.returns-in-Some-Unmap-clause-counts
returns-in-Some-Unmap-clause-counts g c =
    other_shows c.args.folders.now c.args.state.now.events c.unmap.new.state.events c.args.id (due (after c.args.state.now.events) c.args.hart.now.hart) (call_in (after c.args.state.now.events) (call.Unmap c.in-Some-Unmap.dying)) (back_of c.args.hart.now.hart (call.Unmap c.in-Some-Unmap.dying)) (g.L.Library.faults c.args.library.now) (g.L.Library.faults c.args.library.now) (g.L.Library.misses c.args.library.now) (g.L.Library.misses c.args.library.now) tt
    (due_of (after c.args.state.now.events) c.args.hart.now.hart c.in-Some-Unmap.field-0 (call.Unmap c.in-Some-Unmap.dying) c.in-Some-Unmap.field-0-is c.in-Some-Unmap.ensures.asked)

pub unmap-requires : goal.unmap-requires
unmap-requires g c = c.requires.finished c.in-Some-Unmap.dying.now.list (back_of c.args.hart.now.hart (call.Unmap c.in-Some-Unmap.dying)) (sym (due_of (after c.args.state.now.events) c.args.hart.now.hart c.in-Some-Unmap.field-0 (call.Unmap c.in-Some-Unmap.dying) c.in-Some-Unmap.field-0-is c.in-Some-Unmap.ensures.asked))

pub returns-in-Some-Dlerror-clause-answered : goal.returns-in-Some-Dlerror-clause-answered
returns-in-Some-Dlerror-clause-answered g c =
    turned c.args.state.now c.tell.new.state c.args.folders.now (g.L.Library.files c.args.library.now) c.args.id (due (after c.args.state.now.events) c.args.hart.now.hart) (call_in (after c.args.state.now.events) (call.Dlerror)) (back_of c.args.hart.now.hart (call.Dlerror)) c.tell.result
    (due_of (after c.args.state.now.events) c.args.hart.now.hart c.in-Some-Dlerror.field-0 (call.Dlerror) c.in-Some-Dlerror.field-0-is c.in-Some-Dlerror.ensures.asked) c.tell.ensures.answered

pub returns-in-Some-Dlerror-clause-whole : goal.returns-in-Some-Dlerror-clause-whole
returns-in-Some-Dlerror-clause-whole g c =
    other_wholly c.args.state.now c.args.folders.now (g.L.Library.files c.args.library.now) (g.L.Library.faults c.args.library.now) (g.L.Library.faults c.args.library.now) c.args.id (due (after c.args.state.now.events) c.args.hart.now.hart) (call_in (after c.args.state.now.events) (call.Dlerror)) (back_of c.args.hart.now.hart (call.Dlerror)) c.tell.result tt
    (due_of (after c.args.state.now.events) c.args.hart.now.hart c.in-Some-Dlerror.field-0 (call.Dlerror) c.in-Some-Dlerror.field-0-is c.in-Some-Dlerror.ensures.asked)

pub returns-in-Some-Dlerror-clause-counts : goal.returns-in-Some-Dlerror-clause-counts
returns-in-Some-Dlerror-clause-counts g c =
    other_shows c.args.folders.now c.args.state.now.events c.tell.new.state.events c.args.id (due (after c.args.state.now.events) c.args.hart.now.hart) (call_in (after c.args.state.now.events) (call.Dlerror)) (back_of c.args.hart.now.hart (call.Dlerror)) (g.L.Library.faults c.args.library.now) (g.L.Library.faults c.args.library.now) (g.L.Library.misses c.args.library.now) (g.L.Library.misses c.args.library.now) tt
    (due_of (after c.args.state.now.events) c.args.hart.now.hart c.in-Some-Dlerror.field-0 (call.Dlerror) c.in-Some-Dlerror.field-0-is c.in-Some-Dlerror.ensures.asked)

pub tell-requires-clause-may_end : goal.tell-requires-clause-may_end
tell-requires-clause-may_end g c = c.requires.may_end (serves_call (due (after c.args.state.now.events) c.args.hart.now.hart) (call_in (after c.args.state.now.events) (call.Dlerror)) (back_of c.args.hart.now.hart (call.Dlerror))
    (due_of (after c.args.state.now.events) c.args.hart.now.hart c.in-Some-Dlerror.field-0 (call.Dlerror) c.in-Some-Dlerror.field-0-is c.in-Some-Dlerror.ensures.asked))

pub returns-in-Some-Locate-clause-answered : goal.returns-in-Some-Locate-clause-answered
returns-in-Some-Locate-clause-answered g c =
    turned c.args.state.now c.locate.new.state c.args.folders.now (g.L.Library.files c.args.library.now) c.args.id (due (after c.args.state.now.events) c.args.hart.now.hart) (call_in (after c.args.state.now.events) (call.Locate c.in-Some-Locate.number c.in-Some-Locate.offset)) (back_of c.args.hart.now.hart (call.Locate c.in-Some-Locate.number c.in-Some-Locate.offset)) c.locate.result
    (due_of (after c.args.state.now.events) c.args.hart.now.hart c.in-Some-Locate.field-0 (call.Locate c.in-Some-Locate.number c.in-Some-Locate.offset) c.in-Some-Locate.field-0-is c.in-Some-Locate.ensures.asked) c.locate.ensures.answered

pub returns-in-Some-Locate-clause-whole : goal.returns-in-Some-Locate-clause-whole
returns-in-Some-Locate-clause-whole g c =
    other_wholly c.args.state.now c.args.folders.now (g.L.Library.files c.args.library.now) (g.L.Library.faults c.args.library.now) (g.L.Library.faults c.args.library.now) c.args.id (due (after c.args.state.now.events) c.args.hart.now.hart) (call_in (after c.args.state.now.events) (call.Locate c.in-Some-Locate.number c.in-Some-Locate.offset)) (back_of c.args.hart.now.hart (call.Locate c.in-Some-Locate.number c.in-Some-Locate.offset)) c.locate.result tt
    (due_of (after c.args.state.now.events) c.args.hart.now.hart c.in-Some-Locate.field-0 (call.Locate c.in-Some-Locate.number c.in-Some-Locate.offset) c.in-Some-Locate.field-0-is c.in-Some-Locate.ensures.asked)

pub returns-in-Some-Locate-clause-counts : goal.returns-in-Some-Locate-clause-counts
returns-in-Some-Locate-clause-counts g c =
    other_shows c.args.folders.now c.args.state.now.events c.locate.new.state.events c.args.id (due (after c.args.state.now.events) c.args.hart.now.hart) (call_in (after c.args.state.now.events) (call.Locate c.in-Some-Locate.number c.in-Some-Locate.offset)) (back_of c.args.hart.now.hart (call.Locate c.in-Some-Locate.number c.in-Some-Locate.offset)) (g.L.Library.faults c.args.library.now) (g.L.Library.faults c.args.library.now) (g.L.Library.misses c.args.library.now) (g.L.Library.misses c.args.library.now) tt
    (due_of (after c.args.state.now.events) c.args.hart.now.hart c.in-Some-Locate.field-0 (call.Locate c.in-Some-Locate.number c.in-Some-Locate.offset) c.in-Some-Locate.field-0-is c.in-Some-Locate.ensures.asked)

pub locate-requires-clause-may_end : goal.locate-requires-clause-may_end
locate-requires-clause-may_end g c = c.requires.may_end (serves_call (due (after c.args.state.now.events) c.args.hart.now.hart) (call_in (after c.args.state.now.events) (call.Locate c.in-Some-Locate.number c.in-Some-Locate.offset)) (back_of c.args.hart.now.hart (call.Locate c.in-Some-Locate.number c.in-Some-Locate.offset))
    (due_of (after c.args.state.now.events) c.args.hart.now.hart c.in-Some-Locate.field-0 (call.Locate c.in-Some-Locate.number c.in-Some-Locate.offset) c.in-Some-Locate.field-0-is c.in-Some-Locate.ensures.asked))

pub returns-in-Some-Write-clause-answered : goal.returns-in-Some-Write-clause-answered
returns-in-Some-Write-clause-answered g c =
    turned c.args.state.now c.write.new.state c.args.folders.now (g.L.Library.files c.args.library.now) c.args.id (due (after c.args.state.now.events) c.args.hart.now.hart) (call_in (after c.args.state.now.events) (call.Write c.in-Some-Write.bytes)) (back_of c.args.hart.now.hart (call.Write c.in-Some-Write.bytes)) c.write.result
    (due_of (after c.args.state.now.events) c.args.hart.now.hart c.in-Some-Write.field-0 (call.Write c.in-Some-Write.bytes) c.in-Some-Write.field-0-is c.in-Some-Write.ensures.asked) c.write.ensures.answered

pub returns-in-Some-Write-clause-whole : goal.returns-in-Some-Write-clause-whole
returns-in-Some-Write-clause-whole g c =
    other_wholly c.args.state.now c.args.folders.now (g.L.Library.files c.args.library.now) (g.L.Library.faults c.args.library.now) (g.L.Library.faults c.args.library.now) c.args.id (due (after c.args.state.now.events) c.args.hart.now.hart) (call_in (after c.args.state.now.events) (call.Write c.in-Some-Write.bytes)) (back_of c.args.hart.now.hart (call.Write c.in-Some-Write.bytes)) c.write.result tt
    (due_of (after c.args.state.now.events) c.args.hart.now.hart c.in-Some-Write.field-0 (call.Write c.in-Some-Write.bytes) c.in-Some-Write.field-0-is c.in-Some-Write.ensures.asked)

pub returns-in-Some-Write-clause-counts : goal.returns-in-Some-Write-clause-counts
returns-in-Some-Write-clause-counts g c =
    other_shows c.args.folders.now c.args.state.now.events c.write.new.state.events c.args.id (due (after c.args.state.now.events) c.args.hart.now.hart) (call_in (after c.args.state.now.events) (call.Write c.in-Some-Write.bytes)) (back_of c.args.hart.now.hart (call.Write c.in-Some-Write.bytes)) (g.L.Library.faults c.args.library.now) (g.L.Library.faults c.args.library.now) (g.L.Library.misses c.args.library.now) (g.L.Library.misses c.args.library.now) tt
    (due_of (after c.args.state.now.events) c.args.hart.now.hart c.in-Some-Write.field-0 (call.Write c.in-Some-Write.bytes) c.in-Some-Write.field-0-is c.in-Some-Write.ensures.asked)

pub write-requires-clause-may_end : goal.write-requires-clause-may_end
write-requires-clause-may_end g c = c.requires.may_end (serves_call (due (after c.args.state.now.events) c.args.hart.now.hart) (call_in (after c.args.state.now.events) (call.Write c.in-Some-Write.bytes)) (back_of c.args.hart.now.hart (call.Write c.in-Some-Write.bytes))
    (due_of (after c.args.state.now.events) c.args.hart.now.hart c.in-Some-Write.field-0 (call.Write c.in-Some-Write.bytes) c.in-Some-Write.field-0-is c.in-Some-Write.ensures.asked))

pub write-requires-clause-few : goal.write-requires-clause-few
write-requires-clause-few g c = c.requires.writes c.in-Some-Write.bytes.now (back_of c.args.hart.now.hart (call.Write c.in-Some-Write.bytes)) (sym (due_of (after c.args.state.now.events) c.args.hart.now.hart c.in-Some-Write.field-0 (call.Write c.in-Some-Write.bytes) c.in-Some-Write.field-0-is c.in-Some-Write.ensures.asked))

pub returns-in-Some-Stop-clause-answered : goal.returns-in-Some-Stop-clause-answered
returns-in-Some-Stop-clause-answered g c =
    turned c.args.state.now c.stop.new.state c.args.folders.now (g.L.Library.files c.args.library.now) c.args.id (due (after c.args.state.now.events) c.args.hart.now.hart) (call_in (after c.args.state.now.events) (call.Stop c.in-Some-Stop.reason)) (back_of c.args.hart.now.hart (call.Stop c.in-Some-Stop.reason)) c.stop.result
    (due_of (after c.args.state.now.events) c.args.hart.now.hart c.in-Some-Stop.field-0 (call.Stop c.in-Some-Stop.reason) c.in-Some-Stop.field-0-is c.in-Some-Stop.ensures.asked) c.stop.ensures.answered

pub returns-in-Some-Stop-clause-whole : goal.returns-in-Some-Stop-clause-whole
returns-in-Some-Stop-clause-whole g c =
    other_wholly c.args.state.now c.args.folders.now (g.L.Library.files c.args.library.now) (g.L.Library.faults c.args.library.now) (g.L.Library.faults c.args.library.now) c.args.id (due (after c.args.state.now.events) c.args.hart.now.hart) (call_in (after c.args.state.now.events) (call.Stop c.in-Some-Stop.reason)) (back_of c.args.hart.now.hart (call.Stop c.in-Some-Stop.reason)) c.stop.result tt
    (due_of (after c.args.state.now.events) c.args.hart.now.hart c.in-Some-Stop.field-0 (call.Stop c.in-Some-Stop.reason) c.in-Some-Stop.field-0-is c.in-Some-Stop.ensures.asked)

pub returns-in-Some-Stop-clause-counts : goal.returns-in-Some-Stop-clause-counts
returns-in-Some-Stop-clause-counts g c =
    other_shows c.args.folders.now c.args.state.now.events c.stop.new.state.events c.args.id (due (after c.args.state.now.events) c.args.hart.now.hart) (call_in (after c.args.state.now.events) (call.Stop c.in-Some-Stop.reason)) (back_of c.args.hart.now.hart (call.Stop c.in-Some-Stop.reason)) (g.L.Library.faults c.args.library.now) (g.L.Library.faults c.args.library.now) (g.L.Library.misses c.args.library.now) (g.L.Library.misses c.args.library.now) tt
    (due_of (after c.args.state.now.events) c.args.hart.now.hart c.in-Some-Stop.field-0 (call.Stop c.in-Some-Stop.reason) c.in-Some-Stop.field-0-is c.in-Some-Stop.ensures.asked)

pub stop-requires-clause-may_end : goal.stop-requires-clause-may_end
stop-requires-clause-may_end g c = c.requires.may_end (serves_call (due (after c.args.state.now.events) c.args.hart.now.hart) (call_in (after c.args.state.now.events) (call.Stop c.in-Some-Stop.reason)) (back_of c.args.hart.now.hart (call.Stop c.in-Some-Stop.reason))
    (due_of (after c.args.state.now.events) c.args.hart.now.hart c.in-Some-Stop.field-0 (call.Stop c.in-Some-Stop.reason) c.in-Some-Stop.field-0-is c.in-Some-Stop.ensures.asked))

pub stop-requires-clause-own : goal.stop-requires-clause-own
stop-requires-clause-own g c = own_end (after c.args.state.now.events) c.args.hart.now.hart c.in-Some-Stop.reason (back_of c.args.hart.now.hart (call.Stop c.in-Some-Stop.reason)) (due_of (after c.args.state.now.events) c.args.hart.now.hart c.in-Some-Stop.field-0 (call.Stop c.in-Some-Stop.reason) c.in-Some-Stop.field-0-is c.in-Some-Stop.ensures.asked)
