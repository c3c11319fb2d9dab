-- The roles of a protocol without faults are 2 to 8 distinct names, so `roles_of` can't fail but for memory.
use Rattle.std.proofs.Common.{◌∙◌, ap, sym, subst, Err}
use Rattle.mps_base.specs.RoleLists.{AreRoles}
use Rattle.mps_global.specs.Global.{plain as global_type}
use Rattle.mps_global.proofs.Sound.{sound_protocol}
use Rattle.mps_open.proofs.opening.roles_of.Goals as goal

pub unreachable-requires : goal.unreachable-requires
unreachable-requires c =
    let sound = sound_protocol c.args.protocol.now.roles.items (global_type c.args.protocol.now.body) c.requires in
    let session : AreRoles c.as_slice.result.now = subst AreRoles (sym c.as_slice.ensures.value) sound.session in
    c.of.ensures.count.0 (c.in-Err-RoleCount.is ∙ ap Err c.in-Err-RoleCount.field-0-is) session.count

pub unreachable-requires-in-Err-DoubleRole : goal.unreachable-requires-in-Err-DoubleRole
unreachable-requires-in-Err-DoubleRole c =
    let sound = sound_protocol c.args.protocol.now.roles.items (global_type c.args.protocol.now.body) c.requires in
    let session : AreRoles c.as_slice.result.now = subst AreRoles (sym c.as_slice.ensures.value) sound.session in
    (c.of.ensures.double.0 (c.in-Err-DoubleRole.is ∙ ap Err c.in-Err-DoubleRole.field-0-is)).1 session.distinct
