-- Feed grammar: the words with which messages begin.
use Rattle.std.specs.Prelude.{ℕ, List, [], ◌∷◌, Option, find, codes}
use Rattle.std.specs.Str.{bytes_eq}
use Rattle.feed_reader.specs.declared.words.SideWord.{SideWord}
use Rattle.feed_reader.specs.declared.words.SideWord.TheVariants.{Put, Take, Mark, Close, Ask, Call}
use Rattle.feed_reader.specs.declared.words.Word.{Word}
use Rattle.feed_reader.specs.declared.words.Word.TheVariants.{Crif, Tables, Withdraw, Side}

abbrev pub side_word_text : SideWord → List ℕ
side_word_text Put = codes "PUT"
side_word_text Take = codes "TAKE"
side_word_text Mark = codes "MARK"
side_word_text Close = codes "CLOSE"
side_word_text Ask = codes "ASK"
side_word_text Call = codes "CALL"

abbrev pub word_text : Word → List ℕ
word_text Crif = codes "CRIF"
word_text Tables = codes "TABLES"
word_text Withdraw = codes "WITHDRAW"
word_text (Side word) = side_word_text word

abbrev pub words : List Word
words = Crif ∷ Tables ∷ Withdraw ∷ Side Put ∷ Side Take ∷ Side Mark ∷ Side Close ∷ Side Ask ∷ Side Call ∷ []

-- the word that a field is
abbrev pub word_of : List ℕ → Option Word
word_of field = find (λ word. bytes_eq field (word_text word)) words
