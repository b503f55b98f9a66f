-- What a centre has of the edit list.
use Rattle.std.specs.Prelude.{List, map}
use Rattle.pv_edits.specs.declared.record.Record.{Record}
use Rattle.pv_udc.specs.Replies.{down_of}
use Rattle.pv_irc.specs.History.{whole_records}

-- the records that come down whole of these: all but the charges and the replies that were taken up
abbrev pub records_below : List Record → List Record
records_below records = whole_records (map down_of records)
