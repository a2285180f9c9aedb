use Rattle.std.proofs.Common.{ap}
use Rattle.nodes.specs.Nodes.{IsDestination}
use Rattle.lists.specs.Lists.{shape_of}
use Rattle.lists.proofs.Listed.{listed_empty, stand_many}
use Rattle.lists.proofs.Alone.{alone_destination}
use Rattle.lists.proofs.Standing.{stand_arms, stand_locals, stand_fields, stand_whole, stand_condition}
use Rattle.lists.proofs.entries.Goals as goal

pub returns-clause-repeated : goal.returns-clause-repeated
returns-clause-repeated c r t f is = stand_whole c.args.nodes.now r t c.args.list f is

pub returns-clause-conditions : goal.returns-clause-conditions
returns-clause-conditions c t is = stand_condition c.args.nodes.now t c.args.list is

pub returns-clause-destinations : goal.returns-clause-destinations
returns-clause-destinations c t is = stand_many c.args.nodes.now IsDestination (alone_destination c.args.nodes.now) t c.args.list is

pub returns-clause-arms : goal.returns-clause-arms
returns-clause-arms c t is = stand_arms c.args.nodes.now t c.args.list is

pub returns-clause-locals : goal.returns-clause-locals
returns-clause-locals c t is = stand_locals c.args.nodes.now t c.args.list is

pub returns-clause-fields : goal.returns-clause-fields
returns-clause-fields c t is = stand_fields c.args.nodes.now t c.args.list is

pub returns-clause-absent : goal.returns-clause-absent
returns-clause-absent c is = listed_empty c.args.nodes.now c.args.list (ap (shape_of c.args.list) is)
