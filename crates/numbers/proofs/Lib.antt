mod Words
