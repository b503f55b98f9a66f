use Rattle.std.proofs.Common.{refl}
use Rattle.pv_ports.specs.Session.{Said, Left, Judged}
use Rattle.pv_ports.proofs.Sessions.{takes_kept}
use Rattle.pv_ports.proofs.verdict.exchange.Goals as goal

pub returns-in-Say : goal.returns-in-Say
returns-in-Say g c = λ line is. record {
  exchange = Said line c.in-Say.text;
  line_is = refl;
  happens = takes_kept _ _ _ _ _ _ _ _ line _ _ c.text_in_line.ensures is c.in-Say.ensures;
  text = refl;
  mark = c.length.ensures;
  end = refl;
}

pub returns-in-Close : goal.returns-in-Close
returns-in-Close g c = λ line is. record {
  exchange = Left line;
  line_is = refl;
  happens = takes_kept _ _ _ _ _ _ _ _ line _ _ c.text_in_line.ensures is c.in-Close.ensures;
  text = c.closing_text.ensures;
  mark = c.length-in-Close.ensures;
  end = refl;
}

pub returns-in-Ask : goal.returns-in-Ask
returns-in-Ask g c = λ line is.
    let given = c.ask.ensures in record {
      exchange = Judged line given.verdict;
      line_is = refl;
      happens = record {
        looked = c.look.new.pass;
        editor = c.in-Ask.editor;
        q = c.in-Ask.q;
        wish = c.in-Ask.wish;
        takes = takes_kept _ _ _ _ _ _ _ _ line _ _ c.text_in_line.ensures is c.in-Ask.ensures;
        judged = given.judged;
      };
      text = given.text;
      mark = given.mark;
      end = given.end;
    }
