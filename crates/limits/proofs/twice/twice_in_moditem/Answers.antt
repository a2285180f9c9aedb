use Rattle.std.proofs.Common.{[], ◌∙◌}
use Rattle.texts.specs.Facts.{facts}
use Rattle.limits.proofs.Scoped.{record_found, moditem_found}
use Rattle.limits.proofs.Tables.{lent}
use Rattle.limits.proofs.twice.twice_in_moditem.Goals as goal

pub returns-in-RecordMode-clause-found : goal.returns-in-RecordMode-clause-found
returns-in-RecordMode-clause-found c a is room =
    record_found (facts c.args.text) c.args.nodes.now c.args.k a c.node_at.result c.in-RecordMode.field-0 c.in-RecordMode.field-1 c.in-RecordMode.list c.args.count c.declare_components-end.result c.args.names.now c.declare_components-end.new.names c.unwrap_or_default.result.now c.doubled.result c.node_at.ensures c.in-RecordMode.is is room c.declare_components-end.ensures.length
    (λ fs at. c.declare_components-end.ensures.behind (facts c.args.text) [] fs at)
    (λ order within. lent c.get.result _ c.unwrap_or_default.result c.declare_components-end.new.names c.args.count c.declare_components-end.result c.get.ensures.lookup c.unwrap_or_default.ensures order within)
    c.doubled.ensures

pub returns-clause-front : goal.returns-clause-front
returns-clause-front c = c.twice_in_body.ensures.front c.declare_parameters-given.ensures.grows ∙ c.declare_parameters-given.ensures.front

pub returns-clause-found : goal.returns-clause-found
returns-clause-found c a is room =
    moditem_found (facts c.args.text) c.args.nodes.now c.args.count c.declare_parameters-given.result c.args.names.now c.declare_parameters-given.new.names c.twice_in_body.result a c.in_ok-procedure.procedure c.declare_parameters-given.ensures.length (c.in_ok-procedure.ensures a is) room
    (λ ps at. c.declare_parameters-given.ensures.behind (facts c.args.text) [] ps at)
    c.twice_in_body.ensures.found
