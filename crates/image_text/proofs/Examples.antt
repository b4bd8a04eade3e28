-- The grammar on small texts, and what the reader makes of them.
use Rattle.std.proofs.Common.{◌≡◌, [], ◌∷◌, refl, Ok, Err, codes}
use Rattle.region_layout.specs.declared.layout.Kind.TheVariants.{Cells, Tree, Hash}
use Rattle.image_text.specs.declared.image.TextFault.TheVariants.{Line}
use Rattle.image_text.specs.Text.{lines, spelled}
use Rattle.image_text.specs.Grammar.{IsImageText, BreaksAt, entry_of, word_entry, named_entry}
use Rattle.image_text.specs.Reading.{image, image_from, image_of, after_line, with_size, with_map, with_word, with_end}
use Rattle.image_text.proofs.Meanings.{image_says, fault_breaks}

-- the words that no line names are 0, and digits may be of either case
a_text : image (codes "image 4\nmap cells\nmap hash\n1 00000000000000fF\nend\n") ≡ Ok (record { kinds = Cells ∷ Hash ∷ []; words = 0 ∷ 255 ∷ 0 ∷ 0 ∷ [] })
unfolding image image_from image_of after_line entry_of word_entry named_entry with_size with_map with_word with_end lines spelled
a_text = refl

-- the last line may lack its line feed
no_last_feed : image (codes "image 0\nmap tree\nend") ≡ Ok (record { kinds = Tree ∷ []; words = [] })
unfolding image image_from image_of after_line entry_of word_entry named_entry with_size with_map with_word with_end lines spelled
no_last_feed = refl

nothing : image [] ≡ Err (Line 1)
unfolding image image_from image_of lines
nothing = refl

-- a text that ends too early breaks the grammar behind its last line
cut_off : image (codes "image 4\nmap cells\n") ≡ Err (Line 3)
unfolding image image_from image_of after_line entry_of word_entry named_entry with_size with_map with_word with_end lines spelled
cut_off = refl

behind_the_end : image (codes "image 0\nmap tree\nend\n\n") ≡ Err (Line 4)
unfolding image image_from image_of after_line entry_of word_entry named_entry with_size with_map with_word with_end lines spelled
behind_the_end = refl

same_address : image (codes "image 4\nmap cells\n1 0000000000000001\n1 0000000000000001\nend\n") ≡ Err (Line 4)
unfolding image image_from image_of after_line entry_of word_entry named_entry with_size with_map with_word with_end lines spelled
same_address = refl

leading_zero : image (codes "image 04\nmap cells\nend\n") ≡ Err (Line 1)
unfolding image image_from image_of after_line entry_of word_entry named_entry with_size with_map with_word with_end lines spelled
leading_zero = refl

carriage_return : image (codes "image 4\r\nmap cells\nend\n") ≡ Err (Line 1)
unfolding image image_from image_of after_line entry_of word_entry named_entry with_size with_map with_word with_end lines spelled
carriage_return = refl

past_the_words : image (codes "image 4\nmap cells\n4 0000000000000001\nend\n") ≡ Err (Line 3)
unfolding image image_from image_of after_line entry_of word_entry named_entry with_size with_map with_word with_end lines spelled
past_the_words = refl

no_map : image (codes "image 4\nend\n") ≡ Err (Line 2)
unfolding image image_from image_of after_line entry_of word_entry named_entry with_size with_map with_word with_end lines spelled
no_map = refl

-- ---- so the grammar says

a_text_is : IsImageText (codes "image 4\nmap cells\nmap hash\n1 00000000000000fF\nend\n") (Cells ∷ Hash ∷ []) (0 ∷ 255 ∷ 0 ∷ 0 ∷ [])
a_text_is = image_says _ _ a_text

cut_off_breaks : BreaksAt (codes "image 4\nmap cells\n") 3
cut_off_breaks = fault_breaks _ 3 cut_off

empty_line_breaks : BreaksAt (codes "image 0\nmap tree\nend\n\n") 4
empty_line_breaks = fault_breaks _ 4 behind_the_end

same_address_breaks : BreaksAt (codes "image 4\nmap cells\n1 0000000000000001\n1 0000000000000001\nend\n") 4
same_address_breaks = fault_breaks _ 4 same_address

-- a text that ends before its maps begins one
begins_no_image : BreaksAt (codes "image 4\nend\n") 2
begins_no_image = fault_breaks _ 2 no_map
