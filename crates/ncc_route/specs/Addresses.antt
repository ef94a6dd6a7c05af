-- Addresses are texts: every value of the lists of members and of tables is one (Bolt 4.4, ROUTE).
use Rattle.std.specs.Prelude.{Bool, ◌&&◌}
use Rattle.ncc_pack.specs.Texts.{texts_alone}
use Rattle.ncc_route.specs.declared.members.Members.{Members}
use Rattle.ncc_route.specs.declared.table.Table.{Table}

abbrev pub members_are_texts : Members → Bool
members_are_texts m = texts_alone m.cores && texts_alone m.replicas

abbrev pub table_is_texts : Table → Bool
table_is_texts t = texts_alone t.write && texts_alone t.read && texts_alone t.route
