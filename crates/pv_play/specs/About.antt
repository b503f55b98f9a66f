-- The help and the version of the program and of its tasks, and the words that ask for them.
use Rattle.std.specs.Prelude.{ℕ, List, [], ◌∷◌, ◌++◌, Option, None, Some, codes}
use Rattle.pv_play.specs.declared.about.About.{About}
use Rattle.pv_play.specs.declared.about.About.TheVariants.{Help, Version}
use Rattle.pv_play.specs.declared.task.Task.{Task}
use Rattle.pv_play.specs.declared.task.Task.TheVariants.{Play, Generate, Evening}
use Rattle.pv_play.specs.Task.{task_word}

-- the words before the one that asks: those of a task, or none for the whole program
abbrev pub topic_words : Option Task → List (List ℕ)
topic_words None = []
topic_words (Some task) = task_word task ∷ []

-- the words that ask for each
abbrev pub about_words : About → List (List ℕ)
about_words (Help topic) = topic_words topic ++ codes "--help" ∷ []
about_words (Version topic) = topic_words topic ++ codes "--version" ∷ []

-- which version it is
abbrev pub version_text : List ℕ
version_text = codes "prestel 0.1.0\n"

-- how the program and each of its tasks are used
abbrev pub help_text : Option Task → List ℕ
help_text None = codes "usage: prestel play N < SCRIPT\n       prestel gen N > SCRIPT\n       prestel evening N\n       prestel format DIR N\n       prestel serve DIR --centres N ..\n       prestel web W serve DIR --centres N ..\n       prestel tape DIR < TAPE\n       prestel statement DIR ACCOUNT YYYY-MM\n       prestel --help\n       prestel --version\n\nplay runs a script on a network of N centres, 1 to 4, and answers each event.\ngen writes the script that is made by rule for N, 1 to 999.\nevening plays it, and sums up in one line what came of it.\nformat makes the disks of N centres in a folder.\nserve lets callers and editors reach them over sockets.\nweb does so too, and shows browsers a terminal.\ntape loads the pages of an information provider there.\nstatement writes what an account was charged in a month.\nEach of the eight has a --help of its own.\n\nExit status:\n  0  everything was done\n  2  bad command line\n  3  a line of the script or tape is not valid\n  4  standard input could not be read\n  5  standard output could not be written\n  6  out of memory\n  7  the script or tape is longer than 1048576 bytes\n  8  a file could not be made or opened, is in use, or failed\n  9  the records of a file could not be read\n  10 a port of the machine could not be had, or failed\n  11 the threads could not be started\n  12 a node is full\n  13 the tape's account or password is not known\n  14 an edit of the tape was refused\n  15 there is no such account\n"
help_text (Some Play) = codes "usage: prestel play N < SCRIPT\n\nRuns the script on standard input on a viewdata network of N retrieval\ncentres, 1 to 4, and writes an answer to each event to standard output.\nA script has at most 1048576 bytes. If one of its lines is not a valid\ncommand, the lines before it are run, and the status is 3.\n"
help_text (Some Generate) = codes "usage: prestel gen N > SCRIPT\n\nWrites the script that is made by rule for the number N, 1 to 999, to\nstandard output: an operator stores N pages, and a caller gets 2N of them.\n"
help_text (Some Evening) = codes "usage: prestel evening N\n\nPlays the script that is made by rule for the number N, 1 to 999, on one\ncentre. Writes one line to standard output: the records of the Update\nCentre, the screens, the charge lines, and the pence of the bill.\n"

-- the text of each
abbrev pub about_text : About → List ℕ
about_text (Help topic) = help_text topic
about_text (Version topic) = version_text
