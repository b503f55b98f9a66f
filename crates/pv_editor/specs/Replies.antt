-- The replies to an editor: one table of texts.
use Rattle.std.specs.Prelude.{ℕ, ◌==◌, List, [], ◌∷◌, ◌++◌, codes, decimal, flat_map, Option, Some, None, if◌then◌else◌}
use Rattle.pv_page.specs.Names.{name_text, account_text}
use Rattle.pv_post.specs.Item.{Response}
use Rattle.pv_post.specs.declared.item.Item.{Item}
use Rattle.pv_post.specs.declared.item.Item.TheVariants.{Charge, Reply, Mail}
use Rattle.pv_editor.specs.declared.replies.UdcReplyView.{UdcReplyView}
use Rattle.pv_editor.specs.declared.replies.UdcReplyView.TheVariants.{Stored, Refused}

-- a line was done
abbrev pub ok_reply : List ℕ
ok_reply = codes "OK"

-- stored at this place; an editor's last number is shown in the same words
abbrev pub number_reply : ℕ → List ℕ
number_reply number = codes "OK " ++ decimal number

-- the session ends
abbrev pub closing_reply : List ℕ
closing_reply = codes "BYE"

-- words and then a number
abbrev pub words_with : List ℕ → ℕ → List ℕ
words_with words number = words ++ decimal number

-- the words of a refusal that no verdict of the Update Centre is
abbrev pub other_words : ℕ → ℕ → List ℕ
other_words code shown =
    if code == 11 then codes "BAD LINE" else
    if code == 12 then codes "NOTHING OPEN" else
    if code == 13 then codes "NOT KNOWN" else
    if code == 14 then words_with (codes "FULL ") shown else
    if code == 15 then codes "DISK" else
    if code == 16 then codes "MEMORY" else
    []

-- the words of a refusal, with the number that it prints
abbrev pub refusal_words : ℕ → ℕ → List ℕ
refusal_words code shown =
    if code == 1 then codes "LOG ON FIRST" else
    if code == 2 then codes "NOT OWNER" else
    if code == 3 then words_with (codes "NUMBER ") shown ++ codes " WANTED" else
    if code == 4 then codes "NO FRAME" else
    if code == 5 then words_with (codes "FRAMES FULL ") shown else
    if code == 6 then words_with (codes "ACCOUNTS FULL ") shown else
    if code == 7 then words_with (codes "BAD FRAME ") shown else
    if code == 8 then codes "OPERATOR ONLY" else
    if code == 9 then words_with (codes "LEASES FULL ") shown else
    if code == 10 then codes "NO ACCOUNT" else
    other_words code shown

-- refused with this code
abbrev pub refusal_text : ℕ → ℕ → List ℕ
refusal_text code shown = codes "NO " ++ (decimal code ++ (codes " " ++ refusal_words code shown))

-- the text of a verdict
abbrev pub reply_of : UdcReplyView → List ℕ
reply_of (Stored place) = number_reply place
reply_of (Refused code shown) = refusal_text code shown

-- ---- responses

-- a field after a bar
abbrev pub barred_field : List ℕ → List ℕ
barred_field field = codes "|" ++ field

-- fields, each after a bar
abbrev pub barred_fields : List (List ℕ) → List ℕ
barred_fields fields = flat_map barred_field fields

-- fields, with a bar between any two
abbrev pub joined_fields : List (List ℕ) → List ℕ
joined_fields [] = []
joined_fields (first ∷ others) = first ++ barred_fields others

-- a filled frame: its place, its name, who filled it in, and what he keyed
abbrev pub response_reply : ℕ → Response → List ℕ
response_reply place reply =
    let who = account_text reply.account ++ (codes " " ++ joined_fields reply.fields) in
    codes "OK " ++ (decimal place ++ (codes " " ++ (name_text reply.name ++ (codes " " ++ who))))

-- nothing was found
abbrev pub nothing_reply : List ℕ
nothing_reply = codes "OK -"

-- the reply to a search for responses; an item of another kind counts as nothing
abbrev pub responses_reply : Option (ℕ × Item) → List ℕ
responses_reply None = nothing_reply
responses_reply (Some (place, Reply reply)) = response_reply place reply
responses_reply (Some (place, Charge line)) = nothing_reply
responses_reply (Some (place, Mail mail)) = nothing_reply
