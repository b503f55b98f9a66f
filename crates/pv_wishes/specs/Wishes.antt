-- What a centre is asked for a wish, and what the call goes on with.
use Rattle.pv_irc.specs.declared.reply.IrcReply.{IrcReply}
use Rattle.pv_irc.specs.declared.reply.IrcReply.TheVariants as replies
use Rattle.pv_irc.specs.declared.request.IrcRequest.{IrcRequest}
use Rattle.pv_irc.specs.declared.request.IrcRequest.TheVariants as requests
use Rattle.pv_post.specs.declared.item.Item.TheVariants as items
use Rattle.pv_session.specs.declared.step.Paid.{Paid}
use Rattle.pv_session.specs.declared.step.Paid.TheVariants as paid
use Rattle.pv_session.specs.declared.step.Wish.{Wish}
use Rattle.pv_session.specs.declared.step.Wish.TheVariants as wishes

-- what a centre is asked for a wish
abbrev pub request_for : Wish → IrcRequest
request_for (wishes.LogOn account) = requests.LogOn account
request_for (wishes.Charge line) = requests.Keep (items.Charge line)
request_for (wishes.Post item) = requests.Keep item
request_for (wishes.Remove account number) = requests.Remove account number

-- what a call goes on with after the reply to it: the serial of a log-on, and else that it is stored
abbrev pub paid_by : IrcReply → Paid
paid_by (replies.Serial serial) = paid.Serial serial
paid_by _ = paid.Stored
