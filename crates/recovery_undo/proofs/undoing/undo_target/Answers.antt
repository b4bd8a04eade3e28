use Rattle.std.proofs.Common.{refl}
use Rattle.recovery_undo.proofs.undoing.undo_target.Goals as goal

pub pass-requires : goal.pass-requires
pass-requires g c = (c.requires.0, c.in-Made.ensures.made refl c.requires.0 c.requires.1)

pub finish-requires : goal.finish-requires
finish-requires g c =
    let k = c.in-Made-pass.ensures.made refl c.requires.0 (c.in-Made.ensures.made refl c.requires.0 c.requires.1) in
    (c.requires.0, k.0, k.1)

pub returns-in-Stopped-clause-stopped : goal.returns-in-Stopped-clause-stopped
returns-in-Stopped-clause-stopped g c = λ same start h. c.in-Stopped.ensures.stopped refl start h

pub returns-in-Stopped-pass-clause-stopped : goal.returns-in-Stopped-pass-clause-stopped
returns-in-Stopped-pass-clause-stopped g c = λ same start h. c.in-Stopped-pass.ensures.stopped refl start (c.in-Made.ensures.made refl start h)

pub returns-in-Made-pass-clause-made : goal.returns-in-Made-pass-clause-made
returns-in-Made-pass-clause-made g c = λ made start h.
    let k = c.in-Made-pass.ensures.made refl start (c.in-Made.ensures.made refl start h) in
    c.finish.ensures.made made start k.0 k.1

pub returns-in-Made-pass-clause-stopped : goal.returns-in-Made-pass-clause-stopped
returns-in-Made-pass-clause-stopped g c = λ stopped start h.
    let k = c.in-Made-pass.ensures.made refl start (c.in-Made.ensures.made refl start h) in
    c.finish.ensures.stopped stopped start k.0 k.1
